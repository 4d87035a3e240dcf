-- The refusals of a change of the state in one check: what its passing shows, and what its refusal leaves.
use mathlib.Core.Path.{◌≡◌, refl, sym, ap, ◌∙◌}
use mathlib.Core.Bool.{true, false}
use mathlib.Core.List.{List}
use Prim.Native.Nat.{ℕ, ◌-◌, ◌≤◌}
use borrow.Author.Tests.{ltb-false, ltb-true}
use lib.Dec.{ltb}
use lib.ListN.{length}
use Rattle.lists.specs.Pick.{pick}
use Rattle.lists.proofs.Cases.{by_test, past}
use Rattle.state.specs.declared.Unit.{Unit}
use Rattle.std.specs.Prelude.{Result, Ok, Err, ⊤}
use Rattle.state.specs.declared.refusal.Refusal.{Refusal}
use Rattle.state.specs.declared.refusal.Refusal.TheVariants as refusal
use Rattle.state.proofs.Behind.{both_pass, by_check, never, same_err}
use Rattle.commands.specs.declared.plans.Done.TheVariants as answer
use Rattle.touched.specs.Touches.{none}
use Rattle.unit.specs.Cores.{Core}
use Rattle.unit.specs.Steps.{Step, carried, changed, too_small}
use Rattle.entries.specs.Entries.{entry_bare}
use Rattle.worlds.specs.Worlds.{Leaves, world_of}
use Rattle.worlds.specs.Refusals.{checked}
use Rattle.worlds.specs.Calls.{guarded, outcome, taken_as, taken_by}
use Rattle.worlds.specs.declared.Session.{Session}
use Rattle.worlds.specs.Worlds.{Outcome}
use Rattle.steps.specs.Readiness.{change_refusal}
use Rattle.steps.proofs.Called.{change_takes}
use Rattle.steps.proofs.Entered.{bare_length, change_after, change_entry}
use Rattle.steps.proofs.Outs.{guarded_goes, guarded_stops, small_stops, taken_stops}

pub record Changeable (s : Session) (memory reel table journal : ℕ) : Type 0 where
  pub right : checked s memory reel journal ≡ Ok tt
  pub large : too_small table s.objects s.objects ≡ false
  pub room : entry_bare ≤ s.journal - s.used

pub changeable : (s : Session) (memory reel table journal : ℕ) → change_refusal s memory reel table journal ≡ Ok tt → Changeable s memory reel table journal
unfolding change_refusal
changeable s memory reel table journal h =
    let third : Result ⊤ Refusal = pick (ltb (s.journal - s.used) entry_bare) (Err refusal.Room) (Ok tt) in
    let p = both_pass (checked s memory reel journal) (pick (too_small table s.objects s.objects) (Err refusal.Table) third) h in
    let q = past (too_small table s.objects s.objects) (Err refusal.Table) third (Ok tt) (never _) p.1 in
    let r = past (ltb (s.journal - s.used) entry_bare) (Err refusal.Room) (Ok tt) (Ok tt) (never _) q.1 in
    record { right = p.0; large = q.0; room = ltb-false (s.journal - s.used) entry_bare r.0 }

-- the ways of the tests
module _ (s : Session) (memory reel table journal : ℕ) where
  small : checked s memory reel journal ≡ Ok tt → too_small table s.objects s.objects ≡ true → change_refusal s memory reel table journal ≡ Err refusal.Table
  unfolding change_refusal
  small t u = rw (t, u)

  full : checked s memory reel journal ≡ Ok tt → too_small table s.objects s.objects ≡ false → ltb (s.journal - s.used) entry_bare ≡ true → change_refusal s memory reel table journal ≡ Err refusal.Room
  unfolding change_refusal
  full t u v = rw (t, u, v)

  free : checked s memory reel journal ≡ Ok tt → too_small table s.objects s.objects ≡ false → ltb (s.journal - s.used) entry_bare ≡ false → change_refusal s memory reel table journal ≡ Ok tt
  unfolding change_refusal
  free t u v = rw (t, u, v)

  stopped : (r : Refusal) → checked s memory reel journal ≡ Err r → change_refusal s memory reel table journal ≡ Err r
  unfolding change_refusal
  stopped r t = rw t

module _ (number : ℕ) (s : Session) (m r tb j : List ℕ) (v : Unit) where
  abbrev core : Core
  core = (world_of number s m r tb j).core

  abbrev step : Step
  step = carried core (changed v)

  abbrev n : Result ⊤ Refusal
  n = change_refusal s (length m) (length r) (length tb) (length j)

  abbrev Gone : Outcome → List ℕ → List ℕ → List ℕ → List ℕ → Type 0
  Gone o m' r' tb' j' = Leaves (guarded (world_of number s m r tb j) (length j) (taken_by (world_of number s m r tb j) step step.answer)) j o m' r' tb' j'

  same_objects : s.objects ≡ step.after.objects
  same_objects = ap (λ (d : Core). d.objects) (change_after core v)

  -- one that is not refused takes the step
  pub change_goes : (u : Unit) (o : Outcome) (m' r' tb' j' : List ℕ) → n ≡ Ok tt → u ≡ v → Leaves (taken_as (world_of number s m r tb j) (carried core (changed u)) (Ok (answer.Step false))) j o m' r' tb' j' → Gone o m' r' tb' j'
  change_goes u o m' r' tb' j' f g h = guarded_goes number s m r tb j _ o m' r' tb' j' (changeable s _ _ _ _ f).right (change_takes number s m r tb j u v o m' r' tb' j' g h)

  goes : (o : Outcome) → checked s (length m) (length r) (length j) ≡ Ok tt → Leaves (taken_as (world_of number s m r tb j) step (Ok (answer.Step false))) j o m r tb j → Gone o m r tb j
  goes o t l = guarded_goes number s m r tb j _ o m r tb j t (change_takes number s m r tb j v v o m r tb j refl l)

  -- a change that is refused with k changes nothing
  pub change_stops : (k : Refusal) → n ≡ Err k → Gone (outcome (Err k) s) m r tb j
  change_stops k f =
      by_check (checked s (length m) (length r) (length j))
      (λ t. by_test (too_small (length tb) s.objects s.objects)
      (λ u. goes _ t (small_stops number s m r tb j step (Ok (answer.Step false)) _ (ap (too_small (length tb) s.objects) (sym same_objects) ∙ u) (ap Err (same_err k refusal.Table (sym f ∙ small s (length m) (length r) (length tb) (length j) t u))) refl))
      (λ u. by_test (ltb (s.journal - s.used) entry_bare)
      (λ w. goes _ t (taken_stops number s m r tb j step _ entry_bare s.objects (change_entry core v number none refl) (bare_length number core none refl) same_objects u (Ok (answer.Step false)) _ (ltb-true (s.journal - s.used) entry_bare w) (ap Err (same_err k refusal.Room (sym f ∙ full s (length m) (length r) (length tb) (length j) t u w))) refl))
      (λ w. let z : Err k ≡ Ok tt = sym f ∙ free s (length m) (length r) (length tb) (length j) t u w in absurd (never k z))))
      (λ x t. guarded_stops number s m r tb j k _ (t ∙ sym (stopped s (length m) (length r) (length tb) (length j) x t) ∙ f))
