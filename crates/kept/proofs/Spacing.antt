-- A space or a skip on a well formed reel meets no block at fault, lays nothing and ends at a bound.
use mathlib.Core.Bool.{Bool}
use mathlib.Core.List.{List}
use Prim.Native.Nat.{ℕ}
use lib.Dec.{eqb}
use Rattle.tape.specs.Objects.{Holds, Object}
use Rattle.std.specs.Prelude.{Result, Ok, Err, IsOkAnd}
use Rattle.state.specs.declared.Tape.{Tape}
use Rattle.state.proofs.Tests.{either}
use Rattle.moves.specs.Between.{Bound}
use Rattle.moves.specs.Counting.{how_many}
use Rattle.moves.specs.Spacing.{spaced}
use Rattle.moves.specs.declared.spacing.Count.{Count}
use Rattle.moves.specs.declared.spacing.Rule.{Rule}
use Rattle.moves.specs.declared.spacing.Spaced.{Spaced}
use Rattle.moves.specs.declared.spacing.Stuck.{Stuck}
use Rattle.moves.proofs.Counts.{spaced_bound}
use Rattle.motions.specs.Spaces.{positioned, positioned_under, space_motion, space_motion_by, start_span}
use Rattle.kept.proofs.Standing.{KeptMotion, halts}

module _ (s m : List ℕ) where
  spaced_kept : {e : ℕ} {os : List Object} → Holds s e os → (r : Rule) (f : Result Spaced Stuck) → IsOkAnd f (λ z. Bound os z.span.position) → KeptMotion s m (space_motion r f e)
  unfolding space_motion space_motion_by
  spaced_kept h r (Ok z) b = halts s m h b
  spaced_kept h r (Err d) b = absurd b

  pub positioned_kept : (t : Tape) {os : List Object} → Holds s t.end os → Bound os t.position → (r : Rule) (count : Count) (enb : Bool) → KeptMotion s m (positioned s t r count enb)
  unfolding positioned_under
  positioned_kept t h b r count enb =
      let from = start_span t count enb in
      either (KeptMotion s m) (eqb (how_many count) 0) _ _ (halts s m h b)
      (spaced_kept h r (spaced s r t.end from) (spaced_bound h r from b))
