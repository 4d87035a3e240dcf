-- A Read on a well formed reel meets no block at fault, lays nothing and ends at a bound.
use mathlib.Core.Bool.{Bool, not}
use mathlib.Core.List.{List}
use Prim.Native.Nat.{ℕ}
use Rattle.tape.specs.Objects.{Holds, Object}
use Rattle.state.proofs.Tests.{either}
use Rattle.moves.specs.Between.{Bound}
use Rattle.moves.specs.Finding.{Finds, finds_mark, finds_nothing, finds_record}
use Rattle.moves.specs.declared.seeking.Sought.{Sought}
use Rattle.moves.proofs.Bounds.{bound_to}
use Rattle.moves.proofs.Finds.{finds}
use Rattle.motions.specs.Parts.{standing}
use Rattle.motions.specs.Reads.{on_record, read_motion, read_one, read_one_under, read_then_space, read_then_space_under, reread, reread_under, space_back, space_back_under, space_then_read, space_then_read_under, stage_by, stage_of, stage_of_under, stop_motion}
use Rattle.motions.specs.declared.reads.Buffer.{Buffer}
use Rattle.motions.specs.declared.reads.Stage.{Stage}
use Rattle.motions.specs.declared.parts.Ending.{Ending}
use Rattle.motions.proofs.Onward.{StageHas, on_record_lem}
use Rattle.kept.proofs.Standing.{KeptMotion, halts}
use Rattle.std.specs.Prelude.{Result}
use Rattle.tape.specs.declared.Damage.{Damage}

module _ (s m : List ℕ) {e : ℕ} {os : List Object} (h : Holds s e os) (r : Buffer) where
  -- what is known of a stage: the record that it passed ends at a bound, or it is over
  abbrev StageKept : Result Stage Damage → Type 0
  StageKept = StageHas (KeptMotion s m) (λ n q. Bound os q)

  stage_by_lem : (p : ℕ) (reverse : Bool) {f : Result Sought Damage} → Finds os reverse p f → StageKept (stage_by (standing p e) r.count reverse f)
  unfolding stage_by stop_motion
  stage_by_lem p reverse (finds_record d g b) = bound_to reverse b
  stage_by_lem p reverse (finds_mark g b) = halts s m h (bound_to reverse b)
  stage_by_lem p reverse (finds_nothing g b z) = halts s m h (bound_to reverse b)

  stage_kept : (p : ℕ) (reverse : Bool) → Bound os p → StageKept (stage_of s (standing p e) r.count reverse)
  unfolding stage_of_under
  stage_kept p reverse b = stage_by_lem p reverse (finds h reverse b)

  -- the record is moved, and the tape stands at b
  record_kept : (reverse rev : Bool) (n q b : ℕ) → Bound os b → KeptMotion s m (read_motion r reverse n q (standing b e) rev)
  unfolding read_motion
  record_kept reverse rev n q b i = halts s m h i

  -- what goes on from a stage
  goes_on : (p : ℕ) (reverse : Bool) (f : ℕ → ℕ → Result Ending Damage) → Bound os p → ((n q : ℕ) → Bound os q → KeptMotion s m (f n q)) → KeptMotion s m (on_record (stage_of s (standing p e) r.count reverse) f)
  goes_on p reverse f b on = on_record_lem (KeptMotion s m) (λ n q. Bound os q) _ f (stage_kept p reverse b) on

  pub read_one_kept : (p : ℕ) (reverse : Bool) → Bound os p → KeptMotion s m (read_one s (standing p e) r reverse)
  unfolding read_one_under
  read_one_kept p reverse b = goes_on p reverse _ b (λ n q i. record_kept reverse reverse n q q i)

  then_read_kept : (p : ℕ) (reverse : Bool) → Bound os p → KeptMotion s m (space_then_read s (standing p e) r reverse)
  unfolding space_then_read_under
  then_read_kept p reverse b = goes_on p reverse _ b (λ n q i. read_one_kept q (not reverse) i)

  back_kept : (reverse : Bool) (n q : ℕ) → Bound os q → KeptMotion s m (space_back s e r reverse n q)
  unfolding space_back_under
  back_kept reverse n q b = goes_on q (not reverse) _ b (λ n' k i. record_kept reverse (not reverse) n q k i)

  then_space_kept : (p : ℕ) (reverse : Bool) → Bound os p → KeptMotion s m (read_then_space s (standing p e) r reverse)
  unfolding read_then_space_under
  then_space_kept p reverse b = goes_on p reverse _ b (λ n q i. back_kept reverse n q i)

  pub reread_kept : (p : ℕ) (reverse opp : Bool) → Bound os p → KeptMotion s m (reread s (standing p e) r reverse opp)
  unfolding reread_under
  reread_kept p reverse opp b = either (KeptMotion s m) opp _ _ (then_space_kept p reverse b) (then_read_kept p reverse b)
