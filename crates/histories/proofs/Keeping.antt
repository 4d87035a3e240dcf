-- A step of one transport, or a host store, keeps every transport good: its own by the laws of a single one, and of the others nothing changes but memory's bytes,
-- of which there are as many.
use mathlib.Core.Path.{◌≡◌, refl, sym, ap, subst, ◌∙◌}
use mathlib.Core.List.{List}
use Prim.Native.Nat.{ℕ, ◌-◌, ◌%◌, ◌≤◌}
use native.Mathlib.Omega.{arith}
use borrow.Author.Tests.{eqb-false, eqb-true, ltb-false}
use lib.Dec.{eqb}
use lib.ListN.{length}
use lib.Seq.{get_or-set_other, length-sets}
use Rattle.std.specs.Prelude.{Ok}
use Rattle.lists.proofs.Cases.{by_test}
use Rattle.state.proofs.Tests.{either}
use Rattle.unit.specs.Asks.{Ask, host_store}
use Rattle.unit.specs.Cores.{Core}
use Rattle.unit.specs.Steps.{Sound, Step, step_of, store_wrong, stored}
use Rattle.unit.proofs.Stepping.{sound}
use Rattle.entries.specs.Entries.{entry_length}
use Rattle.worlds.specs.Worlds.{Ledger, World, session_of}
use Rattle.worlds.specs.Calls.{entry_for, noted, step_on}
use Rattle.worlds.specs.Passes.{Fit}
use Rattle.worlds.specs.Rows.{coupler_checked}
use Rattle.worlds.specs.Coupled.{Coupled, Rig, core_of, core_of_none, coupler_in, deck_of, host_at, lifted_none, no_deck, view_of, view_of_none, with_core, with_memory}
use Rattle.worlds.proofs.Coupling.{CouplerPassed, core_put, coupler_passed, coupler_passes, decks_long}
use Rattle.worlds.proofs.Passing.{core_accepted, let_pass, passed}
use Rattle.worlds.proofs.Undoing.{noted_length, noted_long, noted_used}
use Rattle.sessions.specs.Calling.{Took, taken_to}
use Rattle.sessions.specs.Good.{CoreFormed, CoreIndexed}
use Rattle.sessions.specs.Session.{stepped}
use Rattle.sessions.proofs.Taken.{asked_indexed, asked_keeps, read_none, sound_asked, took_asked, took_fit}
use Rattle.histories.specs.Calling.{Call, Here, OfUnit, call_kind, core_for, coupled_from, doing, journal_of, kind_now, length_of, name_of, next_rig, noted_at, on_call, read_register, step, step_to, store}
use Rattle.histories.specs.Good.{Good, GoodDeck}
use Rattle.histories.proofs.Taking.{Taken, asked, ledger_noted, present_is, step_taken, store_taken, stored_took}

-- a core with other bytes in memory
abbrev pub remembered : List ℕ → Core → Core
remembered m c = record { unit = c.unit; objects = c.objects; memory = m; reel = c.reel; table = c.table }

-- all that another transport's step, or a host store, does to a core
pub other_core : (i k : ℕ) (c : Core) (g : Rig) → (i ≡ k → ⊥) → core_of i (with_core k c g) ≡ remembered c.memory (core_of i g)
unfolding core_of with_core
other_core i k c g h = rw (get_or-set_other g.decks k i (deck_of c) no_deck h)

pub memory_core : (i : ℕ) (m : List ℕ) (g : Rig) → core_of i (with_memory m g) ≡ remembered m (core_of i g)
unfolding core_of
memory_core i m g = refl

-- a ledger that fits a journal of n bytes
pub record Kept (n : ℕ) (l : Ledger) : Type 0 where
  pub long : l.length ≡ n
  pub used : l.used ≤ l.length
  pub whole : length l.bytes ≡ l.used

-- such a core stays fit, over a ledger that fits
fit_other : (n k : ℕ) (c : Core) (l l' : Ledger) (m : List ℕ) → Fit n (record { number = k; core = c; ledger = l }) → length m ≡ length c.memory → Kept n l'
    → Fit n (record { number = k; core = remembered m c; ledger = l' })
fit_other n k c l l' m f e h =
    let p = passed (session_of (record { number = k; core = c; ledger = l })) (length c.memory) (length c.reel) n f.sound in
    record {
      sound =
          let_pass (session_of (record { number = k; core = remembered m c; ledger = l' })) (length m) (length c.reel) n
          (record { legal = p.legal; memory_is = e ∙ p.memory_is; reel_is = p.reel_is; journal_is = sym h.long; used = h.used; limit = omega (arith, p.limit, p.journal_is, h.long) });
      whole = h.whole;
      named = f.named;
    }

-- and so its transport stays good
pub good_other : (n i : ℕ) (w w' : Coupled) (m : List ℕ) → GoodDeck n w i → core_of i w'.rig ≡ remembered m (core_of i w.rig) → length m ≡ length w.rig.memory → Kept n w'.ledger → GoodDeck n w' i
unfolding core_of
good_other n i w w' m d e long h =
    record {
      fit = subst (λ (c : Core). Fit n (record { number = i; core = c; ledger = w'.ledger })) (sym e) (fit_other n i (core_of i w.rig) w.ledger w'.ledger m d.fit long h);
      formed = subst CoreFormed (sym e) d.formed;
      indexed = subst CoreIndexed (sym e) d.indexed;
    }

-- a step x of the core c, taken over the ledger l with its entry as transport k's: the ledger after it
module _ (n k : ℕ) (c : Core) (x : Step) (l : Ledger) (next : World) (t : Took (record { number = k; core = c; ledger = l }) next x) (h : Kept n l) where
  kept_noted : Kept n (noted l (entry_for k c x) c)
  kept_noted =
      let long : ℕ = entry_length (entry_for k c x) in
      let free : long ≤ l.length - l.used = ltb-false (l.length - l.used) long t.room in
      record {
        long = noted_length l (entry_for k c x) c ∙ h.long;
        used = rw (noted_used l (entry_for k c x) c, noted_length l (entry_for k c x) c) (omega (arith, h.used, free));
        whole = noted_long l (entry_for k c x) c h.whole;
      }

-- what is shared stays right
shared_after : (n : ℕ) (w w' : Coupled) → CouplerPassed (coupler_in w) (length w.rig.memory) n → w'.rig.mounted ≡ w.rig.mounted → length w'.rig.memory ≡ length w.rig.memory → Kept n w'.ledger
    → coupler_checked (coupler_in w') (length w'.rig.memory) n ≡ Ok tt
shared_after n w w' p m e h =
    coupler_passes (coupler_in w') (length w'.rig.memory) n
    (record {
      even = subst (λ (y : ℕ). y % 2 ≡ 0) (sym m) p.even;
      memory_least = omega (arith, p.memory_least, m);
      memory_most = omega (arith, p.memory_most, m);
      used = h.used;
      limit = omega (arith, p.limit, p.journal_is, h.long);
      memory_is = e ∙ p.memory_is ∙ sym m;
      journal_is = sym h.long;
    })

-- what a moment's ledger keeps to
pub kept_good : (n : ℕ) (ks : List ℕ) (s : Here) → Good n ks s → Kept n (coupled_from n s).ledger
kept_good n ks s f =
    let p = coupler_passed (coupler_in (coupled_from n s)) (length s.core.memory) n f.shared in
    record { long = refl; used = p.used; whole = f.whole }

-- a step of a transport
module _ (n : ℕ) (k : ℕ) (a : Ask) (h : OfUnit a) (s : Here) (t : Taken n (coupled_from n s) k a) where
  abbrev view : World
  view = view_of k (coupled_from n s)

  abbrev its : Step
  its = step_of a (core_of k s.core)

  pub taken_took : Took view (step_on view n a).world its
  taken_took = took_asked n a view t.kind

  -- that its checks had passed is what its answer says
  pub taken_sound : Sound (core_of k s.core) its
  taken_sound = sound (core_of k s.core) (core_accepted view n (passed (session_of view) (length view.core.memory) (length view.core.reel) n (sound_asked n view a t.kind))) a (asked a h)

  pub taken_lengths : its.after.unit.lengths.memory ≡ s.core.mounted
  unfolding core_of
  taken_lengths = ap (λ l. l.memory) taken_sound.lengths

  pub taken_memory : length its.after.memory ≡ length s.core.memory
  unfolding core_of
  taken_memory = taken_sound.only.long_memory

  -- its own core is the step's
  pub taken_core : core_of k (with_core k its.after s.core) ≡ its.after
  taken_core = core_put k its.after s.core (present_is (length s.core.decks) k t.present).0 taken_lengths

  pub taken_view : view_of k (coupled_from n (step_to (step k a h) s)) ≡ taken_to view its
  unfolding next_rig noted journal_of length_of noted_at doing core_for name_of
  taken_view = ap (λ (c : Core). record { number = k; core = c; ledger = noted view.ledger (entry_for k view.core its) view.core }) taken_core

  own_good : GoodDeck n (coupled_from n s) k → GoodDeck n (coupled_from n (step_to (step k a h) s)) k
  unfolding next_rig
  own_good d =
      record {
        fit = subst (Fit n) (taken_took.is ∙ sym taken_view) (took_fit n view d.fit (step_on view n a).world its taken_took taken_sound);
        formed = subst CoreFormed (sym taken_core) (asked_keeps n view d.fit a d.formed);
        indexed = subst CoreIndexed (sym taken_core) (asked_indexed n view d.fit a t.kind d.formed d.indexed);
      }

  step_kept : (ks : List ℕ) → Good n ks s → Kept n (coupled_from n (step_to (step k a h) s)).ledger
  unfolding noted_at doing core_for name_of
  step_kept ks f = subst (Kept n) (ledger_noted n (step k a h) s.core s.entries) (kept_noted n k view.core its view.ledger (step_on view n a).world taken_took (kept_good n ks s f))

  step_good : (ks : List ℕ) → Good n ks s → Good n ks (step_to (step k a h) s)
  unfolding next_rig with_core
  step_good ks f =
      let w : Coupled = coupled_from n s in
      let w' : Coupled = coupled_from n (step_to (step k a h) s) in
      let l = step_kept ks f in
      record {
        shared = shared_after n w w' (coupler_passed (coupler_in w) (length s.core.memory) n f.shared) refl taken_memory l;
        whole = l.whole;
        decks = λ i m p.
            let d = f.decks i m (rw (decks_long k its.after s.core) at p) in
            by_test (eqb i k)
            (λ e. subst (GoodDeck n w') (sym (eqb-true i k e)) (own_good (subst (GoodDeck n w) (eqb-true i k e) d)))
            (λ e. good_other n i w w' its.after.memory d (other_core i k its.after s.core (eqb-false i k e)) taken_memory l);
      }

-- a host store
module _ (n place : ℕ) (bytes : List ℕ) (s : Here) where
  abbrev none : World
  none = view_of_none (coupled_from n s)

  abbrev stores : Step
  stores = step_of (host_store place bytes) (core_of_none s.core)

  store_memory : length stores.after.memory ≡ length s.core.memory
  unfolding step_of stored core_of_none
  store_memory =
      either (λ (x : Step). length x.after.memory ≡ length s.core.memory) (store_wrong (length s.core.memory) place (length bytes)) _ _ refl
      (length-sets s.core.memory place bytes)

  store_good : (next : World) → Took none next stores → (ks : List ℕ) → Good n ks s → Good n ks (step_to (store place bytes) s)
  unfolding next_rig noted_at doing core_for name_of
  store_good next t ks f =
      let w : Coupled = coupled_from n s in
      let w' : Coupled = coupled_from n (step_to (store place bytes) s) in
      let l : Kept n w'.ledger = subst (Kept n) (ledger_noted n (store place bytes) s.core s.entries) (kept_noted n none.number none.core stores none.ledger next t (kept_good n ks s f)) in
      record {
        shared = shared_after n w w' (coupler_passed (coupler_in w) (length s.core.memory) n f.shared) refl store_memory l;
        whole = l.whole;
        decks = λ i m p. good_other n i w w' stores.after.memory (f.decks i m p) (memory_core i stores.after.memory s.core) store_memory l;
      }

-- every call that takes a step
pub keeps_good : (n : ℕ) (ks : List ℕ) (c : Call) (s : Here) → Good n ks s → kind_now n c s ≡ stepped → Good n ks (step_to c s)
unfolding on_call call_kind host_at lifted_none
keeps_good n ks (step k a h) s f e = step_good n k a h s (step_taken n (coupled_from n s) k a e) ks f
keeps_good n ks (store place bytes) s f e = let t = store_taken n place bytes (view_of_none (coupled_from n s)) e in store_good n place bytes s _ (stored_took n place bytes (view_of_none (coupled_from n s)) t) ks f
keeps_good n ks (read_register k r) s f e = read_none _ e
