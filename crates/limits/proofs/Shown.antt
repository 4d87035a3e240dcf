-- What Read and Position show in XST0 leaves EOT alone, whatever the reel holds.
use mathlib.Core.Bool.{Bool, not}
use mathlib.Core.List.{List}
use mathlib.Core.Path.{refl}
use Prim.Native.Nat.{ℕ}
use native.Mathlib.Omega.{arith}
use lib.Dec.{eqb, ltb}
use Rattle.lists.specs.Pick.{Always}
use Rattle.signals.specs.Bits.{RLL, RLS, TMK}
use Rattle.state.specs.declared.Tape.{Tape}
use Rattle.state.proofs.Tests.{either}
use Rattle.moves.specs.Counting.{how_many}
use Rattle.moves.specs.Seeking.{sought_under}
use Rattle.moves.specs.Spacing.{spaced_under}
use Rattle.moves.specs.declared.seeking.Sought.{Sought}
use Rattle.moves.specs.declared.seeking.Sought.TheVariants as sought-as
use Rattle.moves.specs.declared.spacing.Count.{Count}
use Rattle.moves.specs.declared.spacing.Rule.{Rule}
use Rattle.moves.specs.declared.spacing.Span.{Span}
use Rattle.moves.specs.declared.spacing.Spaced.{Spaced}
use Rattle.moves.specs.declared.spacing.Stuck.{Stuck}
use Rattle.moves.specs.declared.spacing.Stop.{Stop}
use Rattle.moves.specs.declared.spacing.Stop.TheVariants as stop-as
use Rattle.motions.specs.Parts.{standing}
use Rattle.motions.specs.Reads.{mark_end, nothing_end, on_record, read_end, read_motion, read_one_under, read_then_space_under, reread_under, space_back_under, space_then_read_under, stage_by, stage_of_under}
use Rattle.motions.specs.Spaces.{positioned_under, space_end, space_motion, space_motion_by, start_span}
use Rattle.motions.specs.declared.parts.Ending.{Ending}
use Rattle.motions.specs.declared.reads.Buffer.{Buffer}
use Rattle.motions.specs.declared.reads.Stage.{Stage}
use Rattle.motions.proofs.Onward.{StageHas, on_record_lem}
use Rattle.limits.proofs.Telling.{Even, EvenMotion, even_flag}
use Rattle.std.specs.Prelude.{Result, Ok, Err}
use Rattle.tape.specs.declared.Damage.{Damage}

module _ (limit : ℕ) (s : List ℕ) where
  module _ (r : Buffer) where
    abbrev StageEven : Result Stage Damage → Type 0
    StageEven = StageHas EvenMotion (λ n q. Always)

    stage_by_lem : (t : Tape) (reverse : Bool) (x : Result Sought Damage) → StageEven (stage_by t r.count reverse x)
    unfolding stage_by mark_end nothing_end
    stage_by_lem t reverse (Ok (sought-as.Record n q)) = tt
    stage_by_lem t reverse (Ok (sought-as.Mark q)) = refl
    stage_by_lem t reverse (Ok (sought-as.Nothing q)) = either Even reverse _ _ refl refl
    stage_by_lem t reverse (Err d) = tt

    goes_on : (t : Tape) (reverse : Bool) (f : ℕ → ℕ → Result Ending Damage) → ((n q : ℕ) → EvenMotion (f n q)) → EvenMotion (on_record (stage_of_under limit s t r.count reverse) f)
    unfolding stage_of_under
    goes_on t reverse f on = on_record_lem EvenMotion (λ n q. Always) _ f (stage_by_lem t reverse (sought_under limit s reverse t.position t.end)) (λ n q k. on n q)

    record_even : (reverse rev : Bool) (n q : ℕ) (t : Tape) → EvenMotion (read_motion r reverse n q t rev)
    unfolding read_motion read_end
    record_even reverse rev n q t =
        let short = even_flag (ltb n r.count.0) RLS refl in
        let long = even_flag (ltb r.count.0 n) RLL refl in
        omega arith

    pub read_even : (t : Tape) (reverse : Bool) → EvenMotion (read_one_under limit s t r reverse)
    unfolding read_one_under
    read_even t reverse = goes_on t reverse _ (λ n q. record_even reverse reverse n q _)

    then_read : (t : Tape) (reverse : Bool) → EvenMotion (space_then_read_under limit s t r reverse)
    unfolding space_then_read_under
    then_read t reverse = goes_on t reverse _ (λ n q. read_even _ (not reverse))

    back_even : (e : ℕ) (reverse : Bool) (n q : ℕ) → EvenMotion (space_back_under limit s e r reverse n q)
    unfolding space_back_under
    back_even e reverse n q = goes_on (standing q e) (not reverse) _ (λ n' b. record_even reverse (not reverse) n q _)

    then_space : (t : Tape) (reverse : Bool) → EvenMotion (read_then_space_under limit s t r reverse)
    unfolding read_then_space_under
    then_space t reverse = goes_on t reverse _ (λ n q. back_even t.end reverse n q)

    pub reread_even : (t : Tape) (reverse opp : Bool) → EvenMotion (reread_under limit s t r reverse opp)
    unfolding reread_under
    reread_even t reverse opp = either EvenMotion opp _ _ (then_space t reverse) (then_read t reverse)

  space_even : (r : Rule) (x : Span) (e : ℕ) (y : Stop) → EvenMotion (space_motion_by r x e y)
  unfolding space_motion_by space_end
  space_even r x e stop-as.Count = even_flag x.tmk TMK refl
  space_even r x e stop-as.Mark = refl
  space_even r x e stop-as.LogicalEnd =
      let tmk = even_flag x.tmk TMK refl in
      let rls = even_flag (not (eqb (how_many x.left) 0)) RLS refl in
      omega arith
  space_even r x e stop-as.Nothing =
      let tmk = even_flag x.tmk TMK refl in
      let rls = even_flag (not (eqb (how_many x.left) 0)) RLS refl in
      either Even r.reverse _ _ (omega arith) tmk

  spaced_even : (r : Rule) (e : ℕ) (f : Result Spaced Stuck) → EvenMotion (space_motion r f e)
  unfolding space_motion
  spaced_even r e (Ok y) = space_even r y.span e y.stop
  spaced_even r e (Err d) = tt

  pub position_even : (t : Tape) (r : Rule) (count : Count) (enb : Bool) → EvenMotion (positioned_under limit s t r count enb)
  unfolding positioned_under
  position_even t r count enb =
      either EvenMotion (eqb (how_many count) 0) _ _ refl (spaced_even r t.end (spaced_under limit s r t.end (start_span t count enb)))
