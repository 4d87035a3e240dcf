-- A call over the row that takes a step leaves the coupled world of the moment after it; one that takes none leaves the coupled world as it is.
use mathlib.Core.Path.{◌≡◌, refl, sym, ap, ◌∙◌}
use mathlib.Core.Bool.{false}
use mathlib.Core.List.{List, ◌∷◌}
use Prim.Native.Nat.{ℕ, ◌<◌}
use native.Mathlib.Omega.{arith}
use borrow.Author.Tests.{leb-false}
use lib.Dec.{leb}
use lib.ListN.{length}
use Rattle.std.specs.Prelude.{Result, Ok, ⊤}
use Rattle.lists.proofs.Cases.{by_test}
use Rattle.state.proofs.Tests.{neither}
use Rattle.unit.specs.Asks.{Ask, Asked, advance, host_store, operate, write_tsdb, write_tssr}
use Rattle.unit.specs.Steps.{Step, step_of}
use Rattle.entries.specs.Entries.{transports}
use Rattle.state.specs.declared.refusal.Refusal.{Refusal}
use Rattle.state.proofs.Behind.{behind_told, by_check}
use Rattle.worlds.specs.Worlds.{Answered, World, session_of}
use Rattle.worlds.specs.Calls.{noted, refused_as, step_on, taken_by}
use Rattle.worlds.specs.Rows.{absent_in, coupler_checked, coupler_of}
use Rattle.worlds.specs.Coupled.{Coupled, Rig, core_of_none, host_at, host_on, is_absent, lifted, lifted_none, step_at, view_of, view_of_none, with_core, with_memory}
use Rattle.worlds.proofs.Coupling.{put_core}
use Rattle.sessions.specs.Calling.{Left, Took, step_kind, taken_to}
use Rattle.sessions.specs.Session.{Kind, after, does, looked, refused, stepped}
use Rattle.sessions.proofs.Taken.{by_left, read_none, refused_none, step_left, took_asked, took_by}
use Rattle.histories.specs.Calling.{Call, Here, Noted, OfUnit, call_kind, calls, core_for, coupled_from, doing, entry_at, journal_of, kind_now, ledger_of, length_of, name_of, next_rig, noted_at, on_call, read_register, step, step_to, store}

-- what is asked of a transport is asked
pub asked : (a : Ask) → OfUnit a → Asked a
asked (write_tsdb word) h = h
asked write_tssr h = h
asked (operate b) h = h
asked (host_store place bytes) h = absurd h
asked advance h = h

-- a transport that is present is one of the row, and one of four
pub present_is : (n k : ℕ) → absent_in n k ≡ false → (k < n) × (k < transports)
unfolding absent_in
present_is n k h =
    let p = neither (leb n k) (leb transports k) h in
    (leb-false n k p.0, leb-false transports k p.1)

-- a step of a transport that was taken: the transport is present, and its own world took the step
pub record Taken (n : ℕ) (w : Coupled) (k : ℕ) (a : Ask) : Type 0 where
  pub present : is_absent w k ≡ false
  pub kind : step_kind (step_on (view_of k w) n a).answer ≡ stepped

module _ (n : ℕ) (w : Coupled) where
  pub step_taken : (k : ℕ) (a : Ask) → step_kind (step_at w n k a).answer ≡ stepped → Taken n w k a
  unfolding step_at lifted step_kind
  step_taken k a e =
      by_test (is_absent w k)
      (λ t. let z : refused ≡ stepped = rw t at e in refused_none z)
      (λ t. record { present = t; kind = rw t at e })

  -- what a present transport's call leaves is its own world's, in its place
  pub step_present : (k : ℕ) (a : Ask) → is_absent w k ≡ false → step_at w n k a ≡ lifted k w (step_on (view_of k w) n a)
  unfolding step_at
  step_present k a t = rw t

-- what a host store comes to once 1, 2 and 4 let it pass
abbrev pub passing : ℕ → List ℕ → World → Answered
passing place bytes w = taken_by w (step_of (host_store place bytes) w.core) (step_of (host_store place bytes) w.core).answer

-- a host store that was taken: what is shared had passed
pub record Stored (n : ℕ) (w : World) (place : ℕ) (bytes : List ℕ) : Type 0 where
  pub shared : coupler_checked (coupler_of (session_of w)) (length w.core.memory) n ≡ Ok tt
  pub is : host_on w n place bytes ≡ passing place bytes w
  pub kind : step_kind (passing place bytes w).answer ≡ stepped

module _ (n place : ℕ) (bytes : List ℕ) (w : World) where
  abbrev storing : Step
  storing = step_of (host_store place bytes) w.core

  abbrev check : Result ⊤ Refusal
  check = coupler_checked (coupler_of (session_of w)) (length w.core.memory) n

  pub store_taken : step_kind (host_on w n place bytes).answer ≡ stepped → Stored n w place bytes
  unfolding host_on step_kind
  store_taken e =
      by_check check
      (λ t. record { shared = t; is = rw t; kind = rw t at e })
      (λ r t. let z : refused ≡ stepped = rw t at e in refused_none z)

  pub stored_took : Stored n w place bytes → Took w (passing place bytes w).world storing
  stored_took t = took_by w storing storing.answer t.kind

  pub store_left : Left w (host_on w n place bytes)
  unfolding host_on
  store_left = behind_told (Left w) check (λ r. refused_as r w) (passing place bytes w) (λ r t g. refl) (λ t. by_left n w storing storing.answer)

-- a noted entry is the ledger's newest
pub ledger_noted : (n : ℕ) (c : Call) (g : Rig) (xs : List Noted) → noted (ledger_of n xs) (entry_at c g) (core_for c g) ≡ ledger_of n (noted_at c g ∷ xs)
unfolding noted journal_of length_of noted_at
ledger_noted n c g xs = refl

module _ (n : ℕ) where
  -- the coupled world that a world of transport k, or of none, makes in its place
  abbrev placed_at : ℕ → Coupled → World → Coupled
  placed_at k w v = record { rig = with_core k v.core w.rig; ledger = v.ledger }

  abbrev placed_none : Coupled → World → Coupled
  placed_none w v = record { rig = with_memory v.core.memory w.rig; ledger = v.ledger }

  step_rig : (k : ℕ) (a : Ask) (h : OfUnit a) (s : Here) → placed_at k (coupled_from n s) (taken_to (view_of k (coupled_from n s)) (step_of a (view_of k (coupled_from n s)).core)) ≡ coupled_from n (step_to (step k a h) s)
  unfolding next_rig noted journal_of length_of noted_at doing core_for name_of
  step_rig k a h s = refl

  store_rig : (place : ℕ) (bytes : List ℕ) (s : Here) → placed_none (coupled_from n s) (taken_to (view_of_none (coupled_from n s)) (step_of (host_store place bytes) (view_of_none (coupled_from n s)).core)) ≡ coupled_from n (step_to (store place bytes) s)
  unfolding next_rig noted journal_of length_of noted_at doing core_for name_of
  store_rig place bytes s = refl

  -- the journal is the entries of the steps that stand: the coupled world after a step is that of the moment after it
  pub stepped_rig : (c : Call) (s : Here) → kind_now n c s ≡ stepped → (on_call n c (coupled_from n s)).coupled ≡ coupled_from n (step_to c s)
  unfolding on_call call_kind lifted lifted_none host_at
  stepped_rig (step k a h) s e =
      let t = step_taken n (coupled_from n s) k a e in
      ap (λ x. x.coupled) (step_present n (coupled_from n s) k a t.present)
      ∙ ap (placed_at k (coupled_from n s)) (took_asked n a (view_of k (coupled_from n s)) t.kind).is
      ∙ step_rig k a h s
  stepped_rig (store place bytes) s e =
      let v : World = view_of_none (coupled_from n s) in
      let t = store_taken n place bytes v e in
      ap (placed_none (coupled_from n s)) (ap (λ x. x.world) t.is ∙ (stored_took n place bytes v t).is)
      ∙ store_rig place bytes s
  stepped_rig (read_register k r) s e = read_none _ e

  -- a call that takes no step
  step_stays : (k : ℕ) (a : Ask) (w : Coupled) → (step_kind (step_at w n k a).answer ≡ stepped → ⊥) → (step_at w n k a).coupled ≡ w
  unfolding step_at lifted
  step_stays k a w g =
      by_test (is_absent w k)
      (λ t. rw t)
      (λ t. rw t (ap (placed_at k w) (step_left n (view_of k w) a (rw t at g)) ∙ ap (λ (x : Rig). record { rig = x; ledger = w.ledger }) (put_core k w.rig)))

  pub stays : (c : Call) (w : Coupled) → (call_kind c (on_call n c w).answer ≡ stepped → ⊥) → (on_call n c w).coupled ≡ w
  unfolding on_call call_kind host_at lifted_none core_of_none
  stays (step k a h) w g = step_stays k a w g
  stays (store place bytes) w g = ap (placed_none w) (store_left n place bytes (view_of_none w) g)
  stays (read_register k r) w g = refl

  -- what the model does is what the call does
  does_by : (c : Call) (s : Here) (k : Kind) → kind_now n c s ≡ k → coupled_from n (after (calls n) k c s) ≡ (on_call n c (coupled_from n s)).coupled
  does_by c s stepped e = sym (stepped_rig c s e)
  does_by c s refused e = sym (stays c (coupled_from n s) (λ z. let y : refused ≡ stepped = sym e ∙ z in refused_none y))
  does_by c s looked e = sym (stays c (coupled_from n s) (λ z. let y : looked ≡ stepped = sym e ∙ z in absurd (let x : ◌≡◌ {A = ℕ} 0 1 = cc in omega arith)))

  pub does_that : (c : Call) (s : Here) → coupled_from n (does (calls n) c s) ≡ (on_call n c (coupled_from n s)).coupled
  does_that c s = does_by c s (kind_now n c s) refl
