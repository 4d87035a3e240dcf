-- What a write leaves: "Writing stores only the new object's blocks and moves the end to just after them." "Retry: space reverse over gaps and
-- one record or mark, then a one-block gap, then the new object." (01)
use Rattle.std.specs.Prelude.{Bool, true, false, ◌&&◌, List, [], ◌∷◌, ◌++◌, ◌≡◌, ℕ, ◌+◌, ◌*◌, ◌/◌, eqb, leb, ltb, length}
use Rattle.lists.specs.Pick.{pick}
use Rattle.lists.specs.Places.{gathered}
use Rattle.tape.specs.Numbers.{eot_marker}
use Rattle.tape.specs.Objects.{Holds, Object, blocks_of, gap, mark, record_of}
use Rattle.signals.specs.Bits.{TMK}
use Rattle.signals.specs.Message.{flag_of}
use Rattle.signals.specs.declared.packet.Header.{Header}
use Rattle.signals.specs.declared.packet.Packet.{Packet}
use Rattle.state.specs.declared.Unit.{Unit}
use Rattle.moves.specs.Between.{Gaps}
use Rattle.advance.specs.Rules.{has_extent, writes}
use Rattle.demands.specs.Done.{sent_word}
use Rattle.demands.specs.Ways.{Runs, header, packet}

-- a Write or Format is carried out: nothing keeps it from running, and its data lie in memory (step 10)
module _ (u : Unit) (m s : List ℕ) where
  pub record WriteRuns : Type 0 where
    pub runs : Runs u m s
    pub inside : (has_extent (header u m s) && ltb (length m) ((packet u m s).pointer + (packet u m s).count)) ≡ false
    pub write : writes (header u m s) ≡ true

-- the object that a Write or Format lays: "Write 5", "Format 9 / 0 mark, 1 erase, 2 mark retry"
abbrev pub object_for : List ℕ → Header → Packet → Object
object_for m h p =
    pick (eqb h.code 5) (record_of (gathered h.swb m p.pointer p.count)) (pick (eqb h.mode 1) gap mark)

abbrev pub is_mark : Object → Bool
is_mark (record_of d) = false
is_mark mark = true
is_mark gap = false

-- "A write or format carried out that ends at or past EOT: class 2. A written mark sets TMK.": one that laid o, and left the state u' and the
-- memory m' with its message
pub record WriteTold (o : Object) (u' : Unit) (m' : List ℕ) : Type 0 where
  pub class : u'.registers.class ≡ pick (leb (eot_marker u'.lengths.blocks) u'.tape.position) 2 0
  -- residual, XST0 above its low byte, XST3
  pub residual : sent_word u' m' 2 ≡ 0
  pub found : sent_word u' m' 3 / 256 * 256 ≡ flag_of (is_mark o) TMK
  pub xst3 : sent_word u' m' 6 ≡ 0

-- what it goes over and what it lays: nothing and the object; or, mode 2, the last record or mark with the gaps behind it, and a gap and the object
pub data Lays (o : Object) (mode : ℕ) : List Object → List Object → Type 0 where
  plainly : eqb mode 2 ≡ false → Lays o mode [] (o ∷ [])
  again_over_record : {d : List ℕ} {gaps : List Object} → mode ≡ 2 → Gaps gaps → Lays o mode (record_of d ∷ gaps) (gap ∷ (o ∷ []))
  again_over_mark : {gaps : List Object} → mode ≡ 2 → Gaps gaps → Lays o mode (mark ∷ gaps) (gap ∷ (o ∷ []))

-- of an advance of u over memory m and the reel s, which holds the objects os, that left the state u' and the reel s'
module _ (u : Unit) (m s : List ℕ) (os : List Object) (u' : Unit) (s' : List ℕ) where
  pub record Wrote : Type 0 where
    -- the objects that stay, those between them and the position that it goes over, those beyond, and the new ones
    pub before : List Object
    pub over : List Object
    pub beyond : List Object
    pub new : List Object
    pub whole : os ≡ before ++ (over ++ beyond)
    pub stood : u.tape.position ≡ blocks_of (before ++ over)
    pub lays : Lays (object_for m (header u m s) (packet u m s)) (header u m s).mode over new
    -- the reel holds the ones that stay and the new ones, and the tape stands behind them, at the recorded end
    pub holds : Holds s' u'.tape.end (before ++ new)
    pub position : u'.tape.position ≡ blocks_of (before ++ new)
