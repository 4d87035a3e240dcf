-- A space or a skip that ended moves and lays nothing, and leaves the tape below the recorded end.
use mathlib.Core.Bool.{Bool}
use mathlib.Core.List.{List}
use mathlib.Core.Path.{◌≡◌, refl}
use Prim.Native.Nat.{ℕ, ◌≤◌}
use native.Mathlib.Omega.{arith}
use lib.Dec.{eqb}
use Rattle.state.specs.declared.Tape.{Tape}
use Rattle.state.proofs.Tests.{either}
use Rattle.moves.specs.Counting.{how_many}
use Rattle.moves.specs.Spacing.{came, spaced}
use Rattle.moves.specs.declared.spacing.Count.{Count}
use Rattle.moves.specs.declared.spacing.Rule.{Rule}
use Rattle.moves.specs.declared.spacing.Span.{Span}
use Rattle.moves.specs.declared.spacing.Stop.{Stop}
use Rattle.moves.specs.declared.spacing.Spaced.{Spaced}
use Rattle.moves.specs.declared.spacing.Stuck.{Stuck}
use Rattle.std.specs.Prelude.{Result, Ok, Err, IfOk}
use Rattle.tape.specs.declared.Damage.{Damage}
use Rattle.moves.proofs.Within.{spaced_within}
use Rattle.signals.specs.declared.message.End.{End}
use Rattle.motions.specs.Parts.{no_lay, no_move, standing, stops}
use Rattle.motions.specs.Spaces.{positioned, positioned_under, space_motion, space_motion_by, start_span}
use Rattle.motions.specs.declared.parts.Ending.{Ending}
use Rattle.motions.proofs.Ends.{EndFits, Has, space_end_fits}

-- a space that ended, on a tape whose recorded end is e
pub record SpaceFits (e : ℕ) (x : Ending) : Type 0 where
  pub place : x.tape.position ≤ x.tape.end
  pub kept : x.tape.end ≡ e
  pub unmoved : x.moved ≡ no_move
  pub unlaid : x.laid ≡ no_lay
  pub told : EndFits x.end

module _ (e : ℕ) where
  halts : (x : End) (p : ℕ) → EndFits x → p ≤ e → Has (SpaceFits e) (stops x (standing p e))
  halts x p f h = record { place = h; kept = refl; unmoved = refl; unlaid = refl; told = f }

  space_by : (r : Rule) (y : Span) (stop : Stop) → y.position ≤ e → Has (SpaceFits e) (space_motion_by r y e stop)
  unfolding space_motion_by
  space_by r y stop h = halts _ _ (space_end_fits r y stop) h

  space_ended : (r : Rule) (f : Result Spaced Stuck) → (came f).position ≤ e → Has (SpaceFits e) (space_motion r f e)
  unfolding came space_motion
  space_ended r (Ok z) h = space_by r z.span z.stop h
  space_ended r (Err d) h = tt

pub space_has : (s : List ℕ) (t : Tape) (r : Rule) (count : Count) (enb : Bool) → t.position ≤ t.end → Has (SpaceFits t.end) (positioned s t r count enb)
unfolding positioned_under
space_has s t r count enb h =
    let from = start_span t count enb in
    either (Has (SpaceFits t.end)) (eqb (how_many count) 0) _ _
    (halts t.end _ t.position (record { class = omega arith; found = omega arith; xst3 = omega arith }) h)
    (space_ended t.end r (spaced s r t.end from) (spaced_within s r t.end from h))
