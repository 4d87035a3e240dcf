-- Two moments of one coupler in which unit u stands alike: its record, reel and table are the same, and the second has no more in its journal. What a call that remains
-- answers is then the same at both, and leaves them so.
use mathlib.Core.Path.{◌≡◌, refl, sym, ap, ◌∙◌}
use mathlib.Core.Bool.{true, false}
use mathlib.Core.List.{List}
use mathlib.Core.Logic.{inl, inr}
use Prim.Native.Nat.{ℕ, ◌≤◌}
use native.Mathlib.Omega.{arith}
use lib.ListN.{length}
use Rattle.std.specs.Prelude.{Ok, Err}
use Rattle.lists.proofs.Cases.{by_test, past}
use Rattle.unit.specs.Asks.{Ask, advance, host_store}
use Rattle.unit.specs.Cores.{Admitted}
use Rattle.unit.specs.Steps.{Step, step_of}
use Rattle.unit.specs.declared.registers.Register.{Register}
use Rattle.state.specs.declared.refusal.Refusal.TheVariants as refusal
use Rattle.state.proofs.Behind.{never}
use Rattle.worlds.specs.Calls.{register_on, step_on, taken_by}
use Rattle.worlds.specs.Coupled.{Coupled, Deck, Rig, core_of, core_of_none, deck_at, host_at, host_on, is_absent, lifted, lifted_none, register_at, step_at, view_of, view_of_none}
use Rattle.worlds.specs.Refusals.{checked, session_wrong}
use Rattle.worlds.specs.Rows.{absent_in}
use Rattle.worlds.specs.Worlds.{World, session_of}
use Rattle.worlds.proofs.Passing.{core_accepted, passed}
use Rattle.sessions.proofs.Taken.{let_through}
use Rattle.histories.specs.Calling.{Here, coupled_from, length_of}
use Rattle.histories.specs.Good.{Among, Good, GoodDeck}
use Rattle.histories.proofs.Taking.{passing}
use Rattle.isolation.specs.Alike.{SameButMemory, StepsAlike}
use Rattle.isolation.specs.Reads.{SameRead}
use Rattle.isolation.specs.Runs.{Refusal}
use Rattle.isolation.proofs.Asking.{asks_alike, steps_alike}
use Rattle.isolation.proofs.Running.{places_alike, taken_alike}

-- the rigs: unit u's deck, the row's length, and memory's lengths
pub record BesideRig (u : ℕ) (g g' : Rig) : Type 0 where
  pub deck : deck_at g u ≡ deck_at g' u
  pub rows : length g.decks ≡ length g'.decks
  pub mounted : g.mounted ≡ g'.mounted
  pub long : length g.memory ≡ length g'.memory

pub record Beside (n u : ℕ) (ks : List ℕ) (s t : Here) : Type 0 where
  pub rig : BesideRig u s.core t.core
  pub fewer : length_of t.entries ≤ length_of s.entries
  pub good : Good n ks s
  pub good' : Good n ks t

-- unit u's cores, and those of none, differ in memory alone
pub cores_alike : (u : ℕ) (g g' : Rig) → BesideRig u g g' → SameButMemory (core_of u g) (core_of u g')
unfolding core_of
cores_alike u g g' b =
    record {
      unit = rw (b.deck, b.mounted);
      objects = ap (λ (d : Deck). d.transport.objects) b.deck;
      reel = ap (λ (d : Deck). d.reel) b.deck;
      table = ap (λ (d : Deck). d.table) b.deck;
      long = b.long;
    }

pub none_alike : (u : ℕ) (g g' : Rig) → BesideRig u g g' → SameButMemory (core_of_none g) (core_of_none g')
unfolding core_of_none
none_alike u g g' b = record { unit = rw b.mounted; objects = refl; reel = refl; table = refl; long = b.long }

module _ (n u : ℕ) (ks : List ℕ) (here : Among u ks) (s t : Here) (b : Beside n u ks s t) where
  abbrev w : Coupled
  w = coupled_from n s

  abbrev w' : Coupled
  w' = coupled_from n t

  same_absent : is_absent w' u ≡ is_absent w u
  same_absent = ap (λ (k : ℕ). absent_in k u) (sym b.rig.rows)

  -- a good deck is let through
  module _ (p : is_absent w u ≡ false) where
    deck_s : GoodDeck n w u
    deck_s = b.good.decks u here p

    deck_t : GoodDeck n w' u
    deck_t = b.good'.decks u here (same_absent ∙ p)

    pub admitted : Admitted (core_of u s.core)
    admitted = core_accepted (view_of u w) n (passed _ _ _ _ deck_s.fit.sound)

    module _ (a : Ask) (reads : a ≡ advance → SameRead (core_of u s.core).unit s.core.memory t.core.memory) where
      pub unit_alike : StepsAlike a (core_of u s.core) (core_of u t.core)
      unfolding core_of
      unit_alike = steps_alike a (core_of u s.core) (core_of u t.core) admitted (cores_alike u s.core t.core b.rig) reads

      abbrev x : Step
      x = step_of a (core_of u s.core)

      abbrev x' : Step
      x' = step_of a (core_of u t.core)

      goes_s : (step_at w n u a).answer ≡ (taken_by (view_of u w) x x.answer).answer
      unfolding step_at lifted step_on
      goes_s = rw p (ap (λ y. y.answer) (let_through n (view_of u w) deck_s.fit.sound (taken_by (view_of u w) x x.answer)))

      goes_t : (step_at w' n u a).answer ≡ (taken_by (view_of u w') x' x'.answer).answer
      unfolding step_at lifted step_on
      goes_t = rw (same_absent ∙ p) (ap (λ y. y.answer) (let_through n (view_of u w') deck_t.fit.sound (taken_by (view_of u w') x' x'.answer)))

      present_answer : (Refusal (step_at w n u a).answer → ⊥) → (step_at w' n u a).answer ≡ (step_at w n u a).answer
      present_answer f =
          goes_t
          ∙ taken_alike (view_of u w) (view_of u w') x x' (places_alike a (core_of u s.core) (core_of u t.core) (cores_alike u s.core t.core b.rig) unit_alike) unit_alike.touched refl b.fewer unit_alike.answer
          (λ e. f (inl (goes_s ∙ e)))
          (λ e. f (inr (goes_s ∙ e)))
          ∙ sym goes_s

  both_absent : (a : Ask) → is_absent w u ≡ true → (step_at w' n u a).answer ≡ (step_at w n u a).answer
  unfolding step_at
  both_absent a p = rw (same_absent, p)

  -- a step of unit u
  pub step_answer : (a : Ask) → (a ≡ advance → SameRead (core_of u s.core).unit s.core.memory t.core.memory) → (Refusal (step_at w n u a).answer → ⊥) → (step_at w' n u a).answer ≡ (step_at w n u a).answer
  step_answer a reads f = by_test (is_absent w u) (λ p. both_absent a p) (λ p. present_answer p a reads f)

  -- a register of unit u
  right : (v : World) → checked (session_of v) (length v.core.memory) (length v.core.reel) n ≡ Ok tt → session_wrong (session_of v) ≡ false
  unfolding checked
  right v h = (past (session_wrong (session_of v)) (Err refusal.State) _ (Ok tt) (never _) h).0

  pub read_answer : (r : Register) → (register_at w' u r).answer ≡ (register_at w u r).answer
  unfolding register_at register_on
  read_answer r =
      by_test (is_absent w u)
      (λ p. rw (same_absent, p))
      (λ p. rw (same_absent, p, right (view_of u w) (deck_s p).fit.sound, right (view_of u w') (deck_t p).fit.sound))

  -- a host store
  pub stores_alike : (place : ℕ) (bytes : List ℕ) → StepsAlike (host_store place bytes) (core_of_none s.core) (core_of_none t.core)
  stores_alike place bytes = asks_alike (host_store place bytes) (λ z. absurd (let y : ◌≡◌ {A = ℕ} 0 1 = cc in omega arith)) (core_of_none s.core) (core_of_none t.core) (none_alike u s.core t.core b.rig)

  stored_s : (place : ℕ) (bytes : List ℕ) → (host_at w n place bytes).answer ≡ (passing place bytes (view_of_none w)).answer
  unfolding host_at lifted_none host_on core_of_none
  stored_s place bytes = rw b.good.shared

  stored_t : (place : ℕ) (bytes : List ℕ) → (host_at w' n place bytes).answer ≡ (passing place bytes (view_of_none w')).answer
  unfolding host_at lifted_none host_on core_of_none
  stored_t place bytes = rw b.good'.shared

  pub store_answer : (place : ℕ) (bytes : List ℕ) → (Refusal (host_at w n place bytes).answer → ⊥) → (host_at w' n place bytes).answer ≡ (host_at w n place bytes).answer
  store_answer place bytes f =
      let l = stores_alike place bytes in
      stored_t place bytes
      ∙ taken_alike (view_of_none w) (view_of_none w') (step_of (host_store place bytes) (core_of_none s.core)) (step_of (host_store place bytes) (core_of_none t.core)) (places_alike (host_store place bytes) _ _ (none_alike u s.core t.core b.rig) l) l.touched refl b.fewer l.answer
      (λ e. f (inl (stored_s place bytes ∙ e)))
      (λ e. f (inr (stored_s place bytes ∙ e)))
      ∙ sym (stored_s place bytes)
