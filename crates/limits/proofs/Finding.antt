-- On a well formed reel whose records are no longer than a limit, a unit of that limit finds and passes what this unit does, from whatever position.
use mathlib.Core.Bool.{Bool, ◌&&◌}
use mathlib.Core.List.{List}
use mathlib.Core.Path.{◌≡◌, refl, ap}
use Prim.Native.Nat.{ℕ, zero, suc, ◌≤◌}
use lib.Dec.{eqb}
use Rattle.lists.specs.Pick.{pick}
use Rattle.tape.specs.Objects.{AllAllowedUnder, Holds, Object}
use Rattle.tape.specs.Pass.{passed}
use Rattle.tape.specs.declared.Met.{Met}
use Rattle.tape.specs.declared.Met.TheVariants as met
use Rattle.tape.proofs.Limits.{passes_same}
use Rattle.tape.proofs.Within.{PassIn, pass_in}
use Rattle.state.proofs.Tests.{either}
use Rattle.moves.specs.Counting.{how_many}
use Rattle.moves.specs.Seeking.{sought, sought_from, sought_from_under, sought_on, sought_under}
use Rattle.moves.specs.Spacing.{mark_turn, mark_turn_by, record_turn, skip_turn, spaced, spaced_from, spaced_from_under, spaced_on, spaced_under, stopped, turn_after, turn_of}
use Rattle.moves.specs.declared.seeking.Sought.{Sought}
use Rattle.moves.specs.declared.seeking.Sought.TheVariants as sought-as
use Rattle.moves.specs.declared.spacing.Count.{Count}
use Rattle.moves.specs.declared.spacing.Count.TheVariants as count-as
use Rattle.moves.specs.declared.spacing.Rule.{Rule}
use Rattle.moves.specs.declared.spacing.Span.{Span}
use Rattle.moves.specs.declared.spacing.Spaced.{Spaced}
use Rattle.moves.specs.declared.spacing.Stuck.{Stuck}
use Rattle.moves.specs.declared.spacing.Stop.TheVariants as stop-as
use Rattle.moves.proofs.Within.{SoughtIn, sought_in}
use Rattle.std.specs.Prelude.{Result, Ok, Err}
use Rattle.tape.specs.declared.Damage.{Damage}

-- what goes on from an object met, a gap alone, if it is the same from every position
on_step : (reverse : Bool) (p e : ℕ) (m : Result Met Damage) (f g : ℕ → Result Sought Damage) → PassIn reverse p e m → ((q : ℕ) → q ≤ e → f q ≡ g q) → sought_on m p f ≡ sought_on m p g
unfolding sought_on
on_step reverse p e (Ok (met.Record n q)) f g i on = refl
on_step reverse p e (Ok (met.Mark q)) f g i on = refl
on_step reverse p e (Ok (met.Gap q)) f g i on = on q i.below
on_step reverse p e (Ok met.Nothing) f g i on = refl
on_step reverse p e (Err d) f g i on = refl

-- and from an object found
module _ (e : ℕ) (r : Rule) (x : Span) (f g : Span → Result Spaced Stuck) (on : (y : Span) → y.position ≤ e → f y ≡ g y) where
  by_count : (c : Count) (q : ℕ) → q ≤ e → spaced_on (Ok (mark_turn_by r x c q)) f ≡ spaced_on (Ok (mark_turn_by r x c q)) g
  unfolding spaced_on mark_turn_by skip_turn
  by_count (count-as.Records n) q b = refl
  by_count (count-as.Marks n) q b = either (λ t. spaced_on (Ok t) f ≡ spaced_on (Ok t) g) (r.ess && x.after_mark) _ _ refl (on _ b)

  by_turn : (y : Result Sought Damage) → SoughtIn r.reverse x.position e y → spaced_on (turn_after r x y) f ≡ spaced_on (turn_after r x y) g
  unfolding spaced_on turn_after turn_of record_turn mark_turn
  by_turn (Ok (sought-as.Record n q)) i = on _ i.0.below
  by_turn (Ok (sought-as.Mark q)) i = by_count x.left q i.below
  by_turn (Ok (sought-as.Nothing q)) i = refl
  by_turn (Err d) i = refl

module _ {s : List ℕ} {e : ℕ} {os : List Object} (h : Holds s e os) (limit : ℕ) (all : AllAllowedUnder limit os) where
  from_under : (reverse : Bool) (turns : ℕ) (p : ℕ) → p ≤ e → sought_from_under limit turns s reverse p e ≡ sought_from turns s reverse p e
  unfolding sought_from_under
  from_under reverse zero p b = refl
  from_under reverse (suc turns) p b =
      rw (passes_same limit h all reverse p b) (on_step reverse p e (passed s reverse p e) _ _ (pass_in s reverse p e b) (λ q c. from_under reverse turns q c))

  pub sought_under_lem : (reverse : Bool) (p : ℕ) → p ≤ e → sought_under limit s reverse p e ≡ sought s reverse p e
  unfolding sought_under
  sought_under_lem reverse p b = from_under reverse e p b

  spaces_under : (r : Rule) (turns : ℕ) (x : Span) → x.position ≤ e → spaced_from_under limit turns s r e x ≡ spaced_from turns s r e x
  unfolding spaced_from_under
  spaces_under r zero x b = refl
  spaces_under r (suc turns) x b =
      rw (sought_under_lem r.reverse x.position b)
      (ap (pick (eqb (how_many x.left) 0) (Ok (stopped stop-as.Count x)))
      (by_turn e r x _ _ (λ y c. spaces_under r turns y c) (sought s r.reverse x.position e) (sought_in s r.reverse x.position e b)))

  pub spaced_under_lem : (r : Rule) (x : Span) → x.position ≤ e → spaced_under limit s r e x ≡ spaced s r e x
  unfolding spaced_under
  spaced_under_lem r x b = spaces_under r _ x b
