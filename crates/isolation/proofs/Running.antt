-- A run and the same run without the other units' calls, side by side: at each moment unit u stands alike in both.
use mathlib.Core.Path.{◌≡◌, refl, sym, ap, ◌∙◌}
use mathlib.Core.Bool.{false}
use mathlib.Core.List.{List}
use Prim.Native.Nat.{ℕ, ◌-◌, ◌≤◌}
use native.Mathlib.Omega.{arith}
use borrow.Author.Tests.{le-ltb, ltb-false}
use lib.ListN.{length}
use Rattle.std.specs.Prelude.{Ok, Err}
use Rattle.lists.proofs.Cases.{by_test}
use Rattle.state.specs.declared.refusal.Refusal.TheVariants as refusal
use Rattle.commands.specs.Answers.{Answer}
use Rattle.commands.specs.declared.plans.Done.TheVariants as answer
use Rattle.unit.specs.Asks.{Ask}
use Rattle.unit.specs.Cores.{Core}
use Rattle.unit.specs.Steps.{Step, step_of, too_small}
use Rattle.entries.specs.Entries.{entry_length}
use Rattle.worlds.specs.Calls.{entry_for, absent_place, taken_as, taken_by, too_full}
use Rattle.worlds.specs.Worlds.{World}
use Rattle.isolation.specs.Alike.{SameButMemory, StepsAlike}

-- worlds of one transport whose steps x and x' touch the same: what refuses neither for places nor for room in the first refuses neither in the second, whose journal
-- has no less room
module _ (v v' : World) (x x' : Step) (places : absent_place v'.core x' ≡ absent_place v.core x) (touched : x.touched ≡ x'.touched) (long : v.ledger.length ≡ v'.ledger.length) (fewer : v'.ledger.used ≤ v.ledger.used) where
  same_entry : entry_length (entry_for v'.number v'.core x') ≡ entry_length (entry_for v.number v.core x)
  unfolding entry_length entry_for
  same_entry = rw touched

  roomy : too_full v.ledger (entry_for v.number v.core x) ≡ false → too_full v'.ledger (entry_for v'.number v'.core x') ≡ false
  roomy t =
      let e : ℕ = entry_length (entry_for v.number v.core x) in
      let e' : ℕ = entry_length (entry_for v'.number v'.core x') in
      let enough : e ≤ v.ledger.length - v.ledger.used = ltb-false (v.ledger.length - v.ledger.used) e t in
      let same : e' ≡ e = same_entry in
      le-ltb (v'.ledger.length - v'.ledger.used) e' (omega (arith, enough, same, long, fewer))

  by_answer : (a : Answer) → ((taken_by v x a).answer ≡ Err refusal.Room → ⊥) → ((taken_by v x a).answer ≡ Err refusal.Table → ⊥) → (taken_by v' x' a).answer ≡ (taken_by v x a).answer
  unfolding taken_by taken_as
  by_answer (Ok (answer.Step i)) f g =
      by_test (absent_place v.core x)
      (λ p. absurd (g (rw p)))
      (λ p. by_test (too_full v.ledger (entry_for v.number v.core x))
      (λ q. absurd (f (rw (p, q))))
      (λ q. rw (places, p, q, roomy q)))
  by_answer (Ok answer.Idle) f g = refl
  by_answer (Err k) f g = refl

  pub taken_alike : x.answer ≡ x'.answer → ((taken_by v x x.answer).answer ≡ Err refusal.Room → ⊥) → ((taken_by v x x.answer).answer ≡ Err refusal.Table → ⊥)
      → (taken_by v' x' x'.answer).answer ≡ (taken_by v x x.answer).answer
  taken_alike e f g = ap (λ (a : Answer). (taken_by v' x' a).answer) (sym e) ∙ by_answer x.answer f g

-- the table is as large for both
pub places_alike : (a : Ask) (c c' : Core) → SameButMemory c c' → StepsAlike a c c' → absent_place c' (step_of a c') ≡ absent_place c (step_of a c)
places_alike a c c' e s =
    ap (λ (l : List ℕ). too_small (length l) c'.objects (step_of a c').after.objects) (sym e.table)
    ∙ ap (λ (k : ℕ). too_small (length c.table) k (step_of a c').after.objects) (sym e.objects)
    ∙ ap (λ (k : ℕ). too_small (length c.table) c.objects k) (sym s.after.objects)
