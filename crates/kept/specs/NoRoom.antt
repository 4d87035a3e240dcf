-- A Write or Format that writes nothing, by the state, memory and reel that it left. (01, steps 11 and "Retry")
use Rattle.std.specs.Prelude.{List, ◌≡◌, ℕ, ◌+◌, ◌*◌, ◌/◌, ◌%◌, Result, Ok}
use Rattle.signals.specs.Bits.{EOT, NEF, REV, RIB}
use Rattle.state.specs.declared.Tape.{Tape}
use Rattle.state.specs.declared.Unit.{Unit}
use Rattle.moves.specs.declared.seeking.Sought.{Sought}
use Rattle.moves.specs.declared.seeking.Sought.TheVariants as sought-as
use Rattle.demands.specs.Done.{sent_word}
use Rattle.tape.specs.declared.Damage.{Damage}

-- from the tape t and the reel s to the state u', the memory m' with its message and the reel s'
module _ (t : Tape) (s : List ℕ) (u' : Unit) (m' s' : List ℕ) where
  -- "11. Object doesn't fit the reel: NEF, EOT, class 3, unmoved."
  pub record NoRoom : Type 0 where
    pub class : u'.registers.class ≡ 3
    pub unmoved : u'.tape ≡ t
    pub reel : s' ≡ s
    -- residual; XST0 above its low byte, and its lowest bit; XST3
    pub residual : sent_word u' m' 2 ≡ 0
    pub found : sent_word u' m' 3 / 256 * 256 ≡ NEF
    pub eot : sent_word u' m' 3 / EOT % 2 ≡ 1
    pub xst3 : sent_word u' m' 6 ≡ 0

  -- "None found: RIB, class 2, nothing written."; "Reverse to block 0 with no further record or mark: .. position 0"
  pub record NoneFound : Type 0 where
    pub class : u'.registers.class ≡ 2
    pub position : u'.tape.position ≡ 0
    pub end : u'.tape.end ≡ t.end
    pub reel : s' ≡ s
    pub residual : sent_word u' m' 2 ≡ 0
    pub found : sent_word u' m' 3 / 256 * 256 ≡ 0
    pub xst3 : sent_word u' m' 6 ≡ REV + RIB

-- "space reverse over gaps and one record or mark": a search that found one stopped at q
pub data Found (q : ℕ) : Result Sought Damage → Type 0 where
  found_record : {n : ℕ} → Found q (Ok (sought-as.Record n q))
  found_mark : Found q (Ok (sought-as.Mark q))
