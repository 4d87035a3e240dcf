-- What the message of a Position says: how its motion ended, word by word.
use Rattle.std.specs.Prelude.{Bool, ◌&&◌, List, ◌≡◌, ℕ, ◌*◌, ◌/◌, eqb, leb}
use Rattle.signals.specs.Residuals.{residual_word}
use Rattle.state.specs.declared.Unit.{Unit}
use Rattle.motions.specs.declared.parts.Ending.{Ending}
use Rattle.moves.specs.Counting.{count_of}
use Rattle.moves.specs.declared.spacing.Count.{Count}
use Rattle.moves.specs.declared.spacing.Rule.{Rule}
use Rattle.advance.specs.Rules.{reverse_first}
use Rattle.demands.specs.Done.{sent_word}
use Rattle.demands.specs.Stops.{SpaceEnded}
use Rattle.demands.specs.Ways.{header, packet}

-- of an advance of the state u over memory m and reel s that carried out a Position mode 0 to 3
module _ (u : Unit) (m s : List ℕ) where
  -- which way, and ESS; what is counted; and whether the start counts as a mark (ENB, from block 0)
  abbrev pub rule_asked : Rule
  rule_asked = record { reverse = reverse_first (header u m s); ess = u.characteristics.ess }

  abbrev pub count_asked : Count
  count_asked = count_of (leb 2 (header u m s).mode) (packet u m s).count

  abbrev pub mark_at_start : Bool
  mark_at_start = u.characteristics.enb && eqb u.tape.position 0

  -- the advance left the state u' and the memory m'
  pub record SpaceSays (u' : Unit) (m' : List ℕ) : Type 0 where
    pub ending : Ending
    pub ended : SpaceEnded s u.tape rule_asked count_asked mark_at_start ending
    pub position : u'.tape.position ≡ ending.tape.position
    pub class : u'.registers.class ≡ ending.end.class
    -- residual, XST0 above its low byte, XST3
    pub residual : sent_word u' m' 2 ≡ residual_word ending.end.residual
    pub found : sent_word u' m' 3 / 256 * 256 ≡ ending.end.found
    pub xst3 : sent_word u' m' 6 ≡ ending.end.xst3

  -- "A Position count of 0 moves nothing, class 0": the tape stays and the message has nothing to say
  pub record SpacedNone (u' : Unit) (m' : List ℕ) : Type 0 where
    pub unmoved : u'.tape ≡ u.tape
    pub class : u'.registers.class ≡ 0
    pub residual : sent_word u' m' 2 ≡ 0
    pub found : sent_word u' m' 3 / 256 * 256 ≡ 0
    pub xst3 : sent_word u' m' 6 ≡ 0
