-- The induction over the turns of a space: what each turn keeps holds where the space ends. What is counted is the same in all of them.
use mathlib.Core.Bool.{Bool, true, false}
use mathlib.Core.List.{List}
use mathlib.Core.Logic.{◌⊎◌, inl, inr}
use mathlib.Core.Path.{◌≡◌, refl}
use Prim.Native.Nat.{ℕ, zero, suc, ◌+◌}
use borrow.Author.Tests.{eqb-true, eqb-false}
use lib.Dec.{eqb}
use Rattle.lists.specs.Pick.{pick}
use Rattle.std.specs.Prelude.{Result, Ok, Err}
use Rattle.moves.specs.declared.spacing.Stuck.{Stuck}
use Rattle.moves.specs.Counting.{how_many, of_marks}
use Rattle.moves.specs.Spacing.{came, spaced, spaced_under, spaced_from, spaced_from_under, spaced_on, stopped}
use Rattle.moves.specs.declared.spacing.Rule.{Rule}
use Rattle.moves.specs.declared.spacing.Spaced.{Spaced}
use Rattle.moves.specs.declared.spacing.Span.{Span}
use Rattle.moves.specs.declared.spacing.Stop.TheVariants as stop-as
use Rattle.moves.specs.declared.spacing.Turn.{Turn}
use Rattle.moves.specs.declared.spacing.Turn.TheVariants as turn-as
use Rattle.moves.proofs.Turns.{Counts, SoundHas, SpanHas, TurnHas, fault_keeps, turn_kind, turn_at}

-- a space counts marks, or not; `Inv turns y` is known of the span y with so many turns left, and `Last` is to be shown
module _ (s : List ℕ) (r : Rule) (e : ℕ) (marks : Bool) (Inv : ℕ → Span → Type 0) (Last : Result Spaced Stuck → Type 0)
    (step : (turns : ℕ) (y : Span) → Counts marks y → Inv (suc turns) y → (how_many y.left ≡ 0 → ⊥) → TurnHas (Inv turns) Last (turn_at s r e y))
    (done : (turns : ℕ) (y : Span) → Inv turns y → (turns ≡ 0) ⊎ (how_many y.left ≡ 0) → Last (Ok (stopped stop-as.Count y))) where
  after_turn : (turns : ℕ) (t : Result Turn Stuck) → SpanHas (Counts marks) t → TurnHas (Inv turns) Last t → ((z : Span) → Counts marks z → Inv turns z → Last (spaced_from turns s r e z))
      → Last (spaced_on t (λ z. spaced_from turns s r e z))
  unfolding spaced_on
  after_turn turns (Ok (turn-as.On z)) k h on = on z k h
  after_turn turns (Ok (turn-as.Over z)) k h on = h
  after_turn turns (Err f) k h on = h

  after_test : (turns : ℕ) (y : Span) (t : Bool) → eqb (how_many y.left) 0 ≡ t → Counts marks y → Inv (suc turns) y → ((z : Span) → Counts marks z → Inv turns z → Last (spaced_from turns s r e z))
      → Last (pick t (Ok (stopped stop-as.Count y)) (spaced_on (turn_at s r e y) (λ z. spaced_from turns s r e z)))
  after_test turns y true w k i on = done (suc turns) y i (inr (eqb-true (how_many y.left) 0 w))
  after_test turns y false w k i on =
      after_turn turns (turn_at s r e y) (turn_kind marks r y _ k) (step turns y k i (eqb-false (how_many y.left) 0 w)) on

  pub rounds : (turns : ℕ) (y : Span) → Counts marks y → Inv turns y → Last (spaced_from turns s r e y)
  unfolding spaced_from_under
  rounds zero y k i = done 0 y i (inl refl)
  rounds (suc turns) y k i = after_test turns y (eqb (how_many y.left) 0) refl k i (λ z l j. rounds turns z l j)

-- what every turn that meets no fault keeps of the span
pub spaced_keeps : (s : List ℕ) (r : Rule) (e : ℕ) (P : Span → Type 0) (x : Span)
    → ((y : Span) → Counts (of_marks x.left) y → P y → (how_many y.left ≡ 0 → ⊥) → SoundHas P (turn_at s r e y)) → P x → P (came (spaced s r e x))
unfolding came spaced_under
spaced_keeps s r e P x step i = rounds s r e (of_marks x.left) (λ _ y. P y) (λ z. P (came z)) (λ turns y k j n. fault_keeps P r y j _ (step y k j n)) (λ turns y j w. j) (e + 1) x refl i
