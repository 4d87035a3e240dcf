-- "Position 8 / 0, 1 records forward, reverse; 2, 3 marks" (01, Commands): how a space or a skip ends.
use Rattle.std.specs.Prelude.{Bool, false, ◌&&◌, not, List, ℕ, ◌+◌, eqb, Result, Ok, Err}
use Rattle.lists.specs.Pick.{pick}
use Rattle.tape.specs.Numbers.{record_limit}
use Rattle.signals.specs.Bits.{LET, OPI, REV, RIB, RLS, TMK}
use Rattle.signals.specs.Message.{flag_of}
use Rattle.signals.specs.declared.message.End.{End}
use Rattle.signals.specs.declared.counts.Residual.{Residual}
use Rattle.signals.specs.declared.counts.Residual.TheVariants as residual
use Rattle.state.specs.declared.Tape.{Tape}
use Rattle.moves.specs.Counting.{how_many}
use Rattle.moves.specs.Spacing.{spaced_under, span}
use Rattle.moves.specs.declared.spacing.Count.{Count}
use Rattle.moves.specs.declared.spacing.Count.TheVariants as count-as
use Rattle.moves.specs.declared.spacing.Rule.{Rule}
use Rattle.moves.specs.declared.spacing.Span.{Span}
use Rattle.moves.specs.declared.spacing.Spaced.{Spaced}
use Rattle.moves.specs.declared.spacing.Stop.{Stop}
use Rattle.moves.specs.declared.spacing.Stuck.{Stuck}
use Rattle.moves.specs.declared.spacing.Stop.TheVariants as stop-as
use Rattle.motions.specs.Parts.{end, standing, stops}
use Rattle.motions.specs.declared.parts.Ending.{Ending}
use Rattle.tape.specs.declared.Damage.{Damage}

-- "records or marks for Position modes 0 to 3"
unfoldable pub residual_of : Count → Residual
residual_of (count-as.Records n) = residual.Records n
residual_of (count-as.Marks n) = residual.Marks n

-- "RLS if BOT or LET left any count"
abbrev pub left_over : Span → ℕ
left_over x = flag_of (not (eqb (how_many x.left) 0)) RLS

-- "Marks: TMK if one was passed."
abbrev pub passed_mark : Span → ℕ
passed_mark x = flag_of x.tmk TMK

unfoldable pub space_end : Rule → Span → Stop → End
-- the count is exhausted
space_end r x stop-as.Count = end 0 (passed_mark x) (flag_of r.reverse REV) (residual_of x.left)
-- "Records: a mark stops them, isn't counted, is passed: TMK, RLS, class 2."
space_end r x stop-as.Mark = end 2 (TMK + RLS) (flag_of r.reverse REV) (residual_of x.left)
-- "LET, class 2"
space_end r x stop-as.LogicalEnd = end 2 (passed_mark x + LET + left_over x) (flag_of r.reverse REV) (residual_of x.left)
-- "Forward at the recorded end: OPI, class 6. Reverse to block 0 ..: RIB, class 2"
space_end r x stop-as.Nothing =
    pick r.reverse
    (end 2 (passed_mark x + left_over x) (REV + RIB) (residual_of x.left))
    (end 6 (passed_mark x) OPI (residual_of x.left))

unfoldable pub space_motion_by : Rule → Span → ℕ → Stop → Result Ending Damage
space_motion_by r x e stop = stops (space_end r x stop) (standing x.position e)

-- a fault refuses: no end is told
unfoldable pub space_motion : Rule → Result Spaced Stuck → ℕ → Result Ending Damage
space_motion r (Ok y) e = space_motion_by r y.span e y.stop
space_motion r (Err f) e = Err f.damage

-- "with ENB too a mark met first from block 0": it counts as the second in a row
abbrev pub start_span : Tape → Count → Bool → Span
start_span t count enb = span t.position count false (enb && eqb t.position 0)

-- under any record limit
module _ (limit : ℕ) where
  -- "A Position count of 0 moves nothing, class 0"
  unfoldable pub positioned_under : List ℕ → Tape → Rule → Count → Bool → Result Ending Damage
  positioned_under s t r count enb =
      pick (eqb (how_many count) 0) (stops (end 0 0 0 (residual_of count)) t)
      (space_motion r (spaced_under limit s r t.end (start_span t count enb)) t.end)

-- and under this unit's own
abbrev pub positioned : List ℕ → Tape → Rule → Count → Bool → Result Ending Damage
positioned = positioned_under record_limit
