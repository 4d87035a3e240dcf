-- "The residual counts bytes for Read, records or marks for Position modes 0 to 3" (01): what was done and the residual make up the count.
-- A unit that "invents a residual", or passes the first object of a space "and feigns the rest", breaks this.
use mathlib.Core.Bool.{Bool, true, false, not}
use mathlib.Core.List.{List, []}
use mathlib.Core.Path.{◌≡◌, refl, ◌∙◌}
use Prim.Native.Nat.{ℕ, ◌+◌}
use native.Mathlib.Omega.{arith}
use borrow.Author.Tests.{eqb-true}
use lib.Dec.{eqb}
use Rattle.lists.specs.Pick.{Always}
use Rattle.lists.proofs.Cases.{pick_told}
use Rattle.tape.specs.Objects.{Holds, Object}
use Rattle.signals.specs.Residuals.{residual_word}
use Rattle.signals.specs.declared.message.End.{End}
use Rattle.state.specs.declared.Tape.{Tape}
use Rattle.state.proofs.Tests.{either}
use Rattle.moves.specs.Between.{Between, Bound, count_in}
use Rattle.moves.specs.Counting.{how_many, of_marks}
use Rattle.moves.specs.Spacing.{came, spaced}
use Rattle.moves.specs.declared.seeking.Sought.{Sought}
use Rattle.moves.specs.declared.seeking.Sought.TheVariants as sought-as
use Rattle.moves.specs.declared.spacing.Count.{Count}
use Rattle.moves.specs.declared.spacing.Count.TheVariants as count-as
use Rattle.moves.specs.declared.spacing.Rule.{Rule}
use Rattle.moves.specs.declared.spacing.Span.{Span}
use Rattle.moves.specs.declared.spacing.Spaced.{Spaced}
use Rattle.moves.specs.declared.spacing.Stuck.{Stuck}
use Rattle.moves.specs.declared.spacing.Stop.{Stop}
use Rattle.moves.specs.declared.spacing.Stop.TheVariants as stop-as
use Rattle.moves.proofs.Bounds.{bound_below, stays}
use Rattle.moves.proofs.Counts.{spaced_between, spaced_why}
use Rattle.motions.specs.Parts.{end, moved_length, stops}
use Rattle.motions.specs.Reads.{mark_end, nothing_end, on_record, read_end, read_motion, read_one, read_one_under, read_then_space, read_then_space_under, reread, reread_under, space_back, space_back_under, space_then_read, space_then_read_under, stage_by, stage_of, stage_of_under, stop_motion}
use Rattle.motions.specs.Spaces.{positioned, positioned_under, residual_of, space_end, space_motion, space_motion_by, start_span}
use Rattle.motions.specs.declared.parts.Ending.{Ending}
use Rattle.motions.specs.declared.reads.Buffer.{Buffer}
use Rattle.motions.specs.declared.reads.Stage.{Stage}
use Rattle.motions.proofs.Ends.{Has}
use Rattle.motions.proofs.Onward.{StageHas, on_record_lem}
use Rattle.demands.specs.Spacing.{SpacedPast}
use Rattle.std.specs.Prelude.{Result, Ok, Err}
use Rattle.tape.specs.declared.Damage.{Damage}

-- the bytes that a Read moved and its residual
module _ (r : Buffer) where
  abbrev Adds : Ending → Type 0
  Adds x = moved_length x.moved + residual_word x.end.residual ≡ r.count.0

  record_adds : (reverse : Bool) (n q : ℕ) (t : Tape) (rev : Bool) → Has Adds (read_motion r reverse n q t rev)
  unfolding read_motion read_end moved_length
  record_adds reverse n q t rev = omega arith

  mark_adds : (reverse : Bool) (q e : ℕ) → Has Adds (stop_motion (mark_end r.count reverse) q e)
  unfolding stop_motion mark_end moved_length
  mark_adds reverse q e = omega arith

  nothing_adds : (reverse : Bool) (q e : ℕ) → Has Adds (stop_motion (nothing_end r.count reverse) q e)
  unfolding stop_motion nothing_end moved_length
  nothing_adds true q e = omega arith
  nothing_adds false q e = omega arith

  -- a stage that is over
  abbrev StageAdds : Result Stage Damage → Type 0
  StageAdds = StageHas (Has Adds) (λ n q. Always)

  stage_by_lem : (t : Tape) (reverse : Bool) (f : Result Sought Damage) → StageAdds (stage_by t r.count reverse f)
  unfolding stage_by stop_motion
  stage_by_lem t reverse (Ok (sought-as.Record n q)) = tt
  stage_by_lem t reverse (Ok (sought-as.Mark q)) = mark_adds reverse q t.end
  stage_by_lem t reverse (Ok (sought-as.Nothing q)) = nothing_adds reverse q t.end
  stage_by_lem t reverse (Err d) = tt

  module _ (s : List ℕ) where
    stage_adds : (t : Tape) (reverse : Bool) → StageAdds (stage_of s t r.count reverse)
    unfolding stage_of_under
    stage_adds t reverse = stage_by_lem t reverse _

    -- what goes on from a stage
    goes_on : (t : Tape) (reverse : Bool) (f : ℕ → ℕ → Result Ending Damage) → ((n q : ℕ) → Has Adds (f n q)) → Has Adds (on_record (stage_of s t r.count reverse) f)
    goes_on t reverse f h = on_record_lem (Has Adds) (λ n q. Always) _ f (stage_adds t reverse) (λ n q i. h n q)

    one_adds : (t : Tape) (reverse : Bool) → Has Adds (read_one s t r reverse)
    unfolding read_one_under
    one_adds t reverse = goes_on t reverse _ (λ n q. record_adds reverse n q _ reverse)

    then_read_adds : (t : Tape) (reverse : Bool) → Has Adds (space_then_read s t r reverse)
    unfolding space_then_read_under
    then_read_adds t reverse = goes_on t reverse _ (λ n q. one_adds _ (not reverse))

    back_adds : (e : ℕ) (reverse : Bool) (n q : ℕ) → Has Adds (space_back s e r reverse n q)
    unfolding space_back_under
    back_adds e reverse n q = goes_on _ (not reverse) _ (λ n' b. record_adds reverse n q _ (not reverse))

    then_space_adds : (t : Tape) (reverse : Bool) → Has Adds (read_then_space s t r reverse)
    unfolding read_then_space_under
    then_space_adds t reverse = goes_on t reverse _ (λ n q. back_adds t.end reverse n q)

    reread_adds : (t : Tape) (reverse opp : Bool) → Has Adds (reread s t r reverse opp)
    unfolding reread_under
    reread_adds t reverse opp = either (Has Adds) opp _ _ (then_space_adds t reverse) (then_read_adds t reverse)

module _ (s : List ℕ) (t : Tape) (r : Buffer) (reverse : Bool) {x : Ending} where
  -- "The residual counts bytes for Read"
  pub read_residual : read_one s t r reverse ≡ Ok x → moved_length x.moved + residual_word x.end.residual ≡ r.count.0
  read_residual y = rw y at (one_adds r s t reverse)

  -- "A mark, BOT or end in the first stage ends it, residual as if nothing moved."
  pub reread_residual : (opp : Bool) → reread s t r reverse opp ≡ Ok x → moved_length x.moved + residual_word x.end.residual ≡ r.count.0
  reread_residual opp y = rw y at (reread_adds r s t reverse opp)

-- the number in a Position's residual
pub residual_word_lem : (c : Count) → residual_word (residual_of c) ≡ how_many c
unfolding residual_of
residual_word_lem (count-as.Records n) = refl
residual_word_lem (count-as.Marks n) = refl

-- every end of a space tells what is left, and class 0 only where the count is exhausted
module _ (r : Rule) (x : Span) where
  pub left_told : (stop : Stop) → residual_word (space_end r x stop).residual ≡ how_many x.left
  unfolding space_end
  left_told stop-as.Count = residual_word_lem x.left
  left_told stop-as.Mark = residual_word_lem x.left
  left_told stop-as.LogicalEnd = residual_word_lem x.left
  left_told stop-as.Nothing =
      either (λ (y : End). residual_word y.residual ≡ how_many x.left) r.reverse _ _ (residual_word_lem x.left) (residual_word_lem x.left)

  class_told : (stop : Stop) → (space_end r x stop).class ≡ 0 → stop ≡ stop-as.Count
  unfolding space_end
  class_told stop-as.Count c = refl
  class_told stop-as.Mark c = absurd (omega arith)
  class_told stop-as.LogicalEnd c = absurd (omega arith)
  class_told stop-as.Nothing c = absurd (either (λ (y : End). y.class ≡ 0 → ⊥) r.reverse _ _ (λ z. omega arith) (λ z. omega arith) c)

module _ {s : List ℕ} {os : List Object} (t : Tape) (h : Holds s t.end os) (b : Bound os t.position) (r : Rule) (count : Count) where
  -- "A Position count of 0 moves nothing, class 0"
  none_asked : eqb (how_many count) 0 ≡ true → Has (SpacedPast os r t.position count) (stops (end 0 0 0 (residual_of count)) t)
  unfolding count_in
  none_asked e =
      record {
        mid = [];
        between = stays r.reverse b;
        counted = omega (arith, residual_word_lem count);
        whole = λ c. residual_word_lem count ∙ eqb-true (how_many count) 0 e;
      }

  module _ (enb : Bool) where
    abbrev from : Span
    from = start_span t count enb

    stopped_as : {z : Spaced} → spaced s r t.end from ≡ Ok z → Has (SpacedPast os r t.position count) (space_motion_by r z.span t.end z.stop)
    unfolding came space_motion_by
    stopped_as {z} y =
        let done = rw y at (spaced_between h r from b) in
        let why = rw y at (spaced_why s r t.end from (bound_below h b)) in
        record {
          mid = done.0;
          between = done.1;
          counted = rw (left_told r z.span z.stop) done.2;
          whole = λ c. left_told r z.span z.stop ∙ why (class_told r z.span z.stop c);
        }

    motion_by : (f : Result Spaced Stuck) → spaced s r t.end from ≡ f → Has (SpacedPast os r t.position count) (space_motion r f t.end)
    unfolding space_motion
    motion_by (Ok z) y = stopped_as y
    motion_by (Err d) y = tt

    passes : Has (SpacedPast os r t.position count) (positioned s t r count enb)
    unfolding positioned_under
    passes = pick_told (Has (SpacedPast os r t.position count)) (eqb (how_many count) 0) _ _ none_asked (λ e. motion_by (spaced s r t.end from) refl)

    module _ {x : Ending} (y : positioned s t r count enb ≡ Ok x) where
      passed_as : SpacedPast os r t.position count x
      passed_as = rw y at passes

      -- "records or marks for Position modes 0 to 3": those between the two positions and the residual make up the count asked
      pub space_residual : (mid : List Object) × Between os r.reverse t.position x.tape.position mid × (count_in (of_marks count) mid + residual_word x.end.residual ≡ how_many count)
      space_residual = (passed_as.mid, passed_as.between, passed_as.counted)

      -- a space that ends with class 0 passed all that was asked
      pub space_whole : x.end.class ≡ 0 → (mid : List Object) × Between os r.reverse t.position x.tape.position mid × (count_in (of_marks count) mid ≡ how_many count)
      space_whole c = (passed_as.mid, passed_as.between, omega (arith, passed_as.counted, passed_as.whole c))
