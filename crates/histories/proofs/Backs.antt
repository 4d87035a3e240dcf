-- The call step back over the row, after a step of any transport or a host store: nothing but the bytes of the journal tells it what to undo, and whose it is.
use mathlib.Core.Path.{◌≡◌, refl, sym, ap, subst, ◌∙◌}
use mathlib.Core.Bool.{Bool, true, false, ◌||◌, not, or-true}
use mathlib.Core.List.{List}
use Prim.Native.Nat.{ℕ, ◌≤◌, ◌<◌}
use native.Mathlib.Omega.{arith}
use borrow.Author.Tests.{eqb-false, eqb-true, le-ltb, ne_eqb}
use lib.Dec.{eqb}
use lib.ListN.{length}
use lib.Seq.{get_or-set_same}
use Rattle.std.specs.Prelude.{Ok, Err}
use Rattle.lists.specs.Fours.{number_limit}
use Rattle.lists.proofs.Cases.{by_test}
use Rattle.state.proofs.Tests.{either}
use Rattle.commands.specs.Answers.{Answer}
use Rattle.commands.specs.declared.plans.Done.TheVariants as answer
use Rattle.unit.specs.Asks.{Ask, host_store}
use Rattle.unit.specs.Cores.{Core}
use Rattle.unit.specs.Steps.{Sound, Step, step_of, store_wrong, stored}
use Rattle.entries.specs.Entries.{entry_bare, transports}
use Rattle.entries.proofs.Joined.{entry_whole}
use Rattle.worlds.specs.Worlds.{World, answered, session_of}
use Rattle.worlds.specs.Calls.{back_on, entry_for, guarded, noted, step_on, undo_on}
use Rattle.worlds.specs.Passes.{Fit}
use Rattle.worlds.specs.Rows.{absent_in, back_refusal, is_mounted, standing_in}
use Rattle.worlds.specs.Coupled.{Coupled, Deck, Rig, back_over, core_of, core_of_none, coupler_in, deck_at, deck_of, host_at, lifted, lifted_none, named_in, no_deck, seats_of, told, undo_named, undo_none, view_of, view_of_none, with_core, with_memory}
use Rattle.worlds.proofs.Coupling.{CouplerPassed, coupler_passed, decks_long, host_taken_undone, other_deck, put_core, put_put}
use Rattle.worlds.proofs.Passing.{passed}
use Rattle.worlds.proofs.Undoing.{noted_used, passes_after, taken_undone}
use Rattle.sessions.specs.Calling.{Took, step_kind, taken_to}
use Rattle.sessions.specs.Session.{Done, Ran, and_did, and_not, and_saw, and_undid, start, stepped}
use Rattle.sessions.proofs.Taken.{has_room, looked_none, read_none, refused_none, sound_asked}
use Rattle.histories.specs.Calling.{Call, Here, Noted, OfUnit, brought_back, call_kind, calls, core_for, coupled_from, doing, entry_at, journal_of, kind_now, length_of, name_of, next_rig, noted_at, on_call, read_register, step, step_to, store}
use Rattle.histories.specs.Good.{EveryMounted, Good}
use Rattle.histories.proofs.Keeping.{keeps_good, taken_sound, taken_took, taken_view}
use Rattle.histories.proofs.Naming.{newest_names}
use Rattle.histories.proofs.Rows.{row_right, stands_by}
use Rattle.histories.proofs.Taking.{Stored, Taken, passing, present_is, step_taken, store_taken, stored_took}

-- a world that took a step, and whose newest entry is brought back
module _ (n : ℕ) (w : World) (fit : Fit n w) (next : World) (x : Step) (t : Took w next x) (s : Sound w.core x) where
  undo_taken : undo_on (taken_to w x) ≡ answered (Ok (answer.Step false)) w
  unfolding back_on guarded
  undo_taken =
      let room = has_room n w fit next x t in
      let used : ℕ = (taken_to w x).ledger.used in
      let long : entry_bare ≤ used = rw (noted_used w.ledger (entry_for w.number w.core x) w.core) (omega (arith, entry_whole (entry_for w.number w.core x))) in
      let h = taken_undone n w x fit s room t.places in
      rw (passes_after n w x fit s room, ne_eqb used 0 (λ z. omega (arith, long, z)), le-ltb used entry_bare long) at h

-- of a moment whose row is right, with an entry that names k
module _ (n : ℕ) (ks : List ℕ) (s : Here) (f : Good n ks s) (every : EveryMounted ks s) where
  back_passes : (k : ℕ) → entry_bare ≤ (coupled_from n s).ledger.used → (eqb k transports || standing_in (seats_of s.core) k) ≡ true
      → back_refusal (coupler_in (coupled_from n s)) (seats_of s.core) (length s.core.memory) n k ≡ Ok tt
  unfolding back_refusal
  back_passes k l h =
      let used : ℕ = (coupled_from n s).ledger.used in
      rw (row_right n ks s f every, ne_eqb used 0 (λ z. omega (arith, l, z)), le-ltb used entry_bare l, h)

  back_named : (k : ℕ) → named_in (coupled_from n s).ledger.bytes ≡ k → entry_bare ≤ (coupled_from n s).ledger.used → (eqb k transports || standing_in (seats_of s.core) k) ≡ true
      → back_over (coupled_from n s) n ≡ undo_named (coupled_from n s) k
  unfolding back_over
  back_named k e l h = rw (e, back_passes k l h)

-- the entry of a call names its transport, and is 128 bytes or more
names : (n : ℕ) (c : Call) (s : Here) → name_of c < number_limit → named_in (coupled_from n (step_to c s)).ledger.bytes ≡ name_of c
unfolding journal_of noted_at entry_for
names n c s h =
    newest_names (entry_at c s.core) 0 (core_for c s.core).memory (core_for c s.core).reel (core_for c s.core).table (journal_of s.entries) h

long_entry : (n : ℕ) (c : Call) (s : Here) → entry_bare ≤ (coupled_from n (step_to c s)).ledger.used
unfolding length_of noted_at
long_entry n c s = omega (arith, entry_whole (entry_at c s.core))

-- after a step of a transport
module _ (n k : ℕ) (a : Ask) (h : OfUnit a) (s : Here) (t : Taken n (coupled_from n s) k a) where
  abbrev its : Step
  its = step_of a (core_of k s.core)

  abbrev later : Coupled
  later = coupled_from n (step_to (step k a h) s)

  put_before : lifted k later (answered (Ok (answer.Step false)) (view_of k (coupled_from n s))) ≡ told (Ok (answer.Step false)) (coupled_from n s)
  unfolding lifted next_rig
  put_before = rw (put_put k (core_of k s.core) its.after s.core, put_core k s.core)

  -- that its checks had passed is what its answer says
  taken_fit : length (coupled_from n s).ledger.bytes ≡ (coupled_from n s).ledger.used → Fit n (view_of k (coupled_from n s))
  taken_fit whole = record { sound = sound_asked n (view_of k (coupled_from n s)) a t.kind; whole = whole; named = omega (arith, (present_is (length s.core.decks) k t.present).1) }

  undo_step : length (coupled_from n s).ledger.bytes ≡ (coupled_from n s).ledger.used → undo_named later k ≡ told (Ok (answer.Step false)) (coupled_from n s)
  unfolding undo_named
  undo_step whole =
      rw (ne_eqb k transports (λ e. omega (arith, e, (present_is (length s.core.decks) k t.present).1)))
      (ap (λ (v : World). lifted k later (undo_on v)) (taken_view n k a h s t)
      ∙ ap (lifted k later) (undo_taken n (view_of k (coupled_from n s)) (taken_fit whole) (step_on (view_of k (coupled_from n s)) n a).world its (taken_took n k a h s t) (taken_sound n k a h s t))
      ∙ put_before)

  -- it is mounted, and its reel stays as long as it is
  taken_mounted : is_mounted (deck_at s.core k).transport ≡ true
  unfolding core_of
  taken_mounted =
      let v : World = view_of k (coupled_from n s) in
      let p = passed (session_of v) (length v.core.memory) (length v.core.reel) n (sound_asked n v a t.kind) in
      ap not (ne_eqb (deck_at s.core k).transport.blocks 0 (λ z. omega (arith, p.legal.blocks_least, z)))

  own_blocks : (deck_at (with_core k its.after s.core) k).transport.blocks ≡ (deck_at s.core k).transport.blocks
  unfolding core_of with_core
  own_blocks =
      ap (λ (d : Deck). d.transport.blocks) (get_or-set_same s.core.decks k (deck_of its.after) no_deck (present_is (length s.core.decks) k t.present).0)
      ∙ ap (λ l. l.blocks) (taken_sound n k a h s t).lengths

-- after a host store
pub done_kind : (a : Answer) → step_kind a ≡ stepped → (i : Bool) × (a ≡ Ok (answer.Step i))
unfolding step_kind
done_kind (Ok (answer.Step i)) e = (i, refl)
done_kind (Ok answer.Idle) e = looked_none e
done_kind (Err k) e = refused_none e

module _ (n place : ℕ) (bytes : List ℕ) (s : Here) where
  abbrev stores : Step
  stores = step_of (host_store place bytes) (core_of_none s.core)

  abbrev behind : Coupled
  behind = coupled_from n (step_to (store place bytes) s)

  stores_core : core_of_none (with_memory stores.after.memory s.core) ≡ stores.after
  unfolding step_of stored core_of_none
  stores_core =
      either (λ (x : Step). core_of_none (with_memory x.after.memory s.core) ≡ x.after) (store_wrong (length s.core.memory) place (length bytes)) _ _ refl refl

  stores_view : view_of_none behind ≡ taken_to (view_of_none (coupled_from n s)) stores
  unfolding next_rig noted journal_of length_of noted_at doing core_for name_of
  stores_view =
      let w : Coupled = coupled_from n s in
      ap (λ (c : Core). record { number = transports; core = c; ledger = noted w.ledger (entry_for transports (core_of_none s.core) stores) (core_of_none s.core) }) stores_core

  unput : lifted_none behind (answered (Ok (answer.Step false)) (view_of_none (coupled_from n s))) ≡ told (Ok (answer.Step false)) (coupled_from n s)
  unfolding lifted_none next_rig core_of_none
  unput = refl

  store_passed : Stored n (view_of_none (coupled_from n s)) place bytes → CouplerPassed (coupler_in (coupled_from n s)) (length s.core.memory) n
  unfolding core_of_none
  store_passed t = coupler_passed (coupler_in (coupled_from n s)) (length s.core.memory) n t.shared

  undo_store : Stored n (view_of_none (coupled_from n s)) place bytes → length (coupled_from n s).ledger.bytes ≡ (coupled_from n s).ledger.used
      → undo_named behind transports ≡ told (Ok (answer.Step false)) (coupled_from n s)
  unfolding undo_named
  undo_store t whole =
      let w : Coupled = coupled_from n s in
      let v : World = view_of_none w in
      let p = store_passed t in
      let d = done_kind (passing place bytes v).answer t.kind in
      ap (λ (v : World). lifted_none behind (undo_none v)) (stores_view ∙ sym (stored_took n place bytes v t).is)
      ∙ ap (lifted_none behind) (host_taken_undone n place bytes w p d.0 whole d.1)
      ∙ unput

-- after any step the newest entry names its transport, and brought back it leaves what was before the step
pub name_small : (n : ℕ) (c : Call) (s : Here) → kind_now n c s ≡ stepped → name_of c ≤ transports
unfolding on_call call_kind name_of
name_small n (step k a h) s e = omega (arith, (present_is (length s.core.decks) k (step_taken n (coupled_from n s) k a e).present).1)
name_small n (store place bytes) s e = omega arith
name_small n (read_register k r) s e = read_none _ e

undo_newest : (n : ℕ) (c : Call) (s : Here) → length (coupled_from n s).ledger.bytes ≡ (coupled_from n s).ledger.used → kind_now n c s ≡ stepped
    → undo_named (coupled_from n (step_to c s)) (name_of c) ≡ told (Ok (answer.Step false)) (coupled_from n s)
unfolding on_call call_kind host_at lifted_none name_of
undo_newest n (step k a h) s whole e = undo_step n k a h s (step_taken n (coupled_from n s) k a e) whole
undo_newest n (store place bytes) s whole e = undo_store n place bytes s (store_taken n place bytes (view_of_none (coupled_from n s)) e) whole
undo_newest n (read_register k r) s whole e = read_none _ e

pub undo_named_lem : (n : ℕ) (c : Call) (s : Here) → length (coupled_from n s).ledger.bytes ≡ (coupled_from n s).ledger.used → kind_now n c s ≡ stepped
    → undo_named (coupled_from n (step_to c s)) (named_in (coupled_from n (step_to c s)).ledger.bytes) ≡ told (Ok (answer.Step false)) (coupled_from n s)
undo_named_lem n c s whole e = ap (undo_named (coupled_from n (step_to c s))) (names n c s (omega (arith, name_small n c s e))) ∙ undo_newest n c s whole e

-- the row stays as long as it is
pub next_long : (c : Call) (g : Rig) → length (next_rig c g).decks ≡ length g.decks
unfolding next_rig
next_long (step k a h) g = decks_long k _ g
next_long (store place bytes) g = refl
next_long (read_register k r) g = refl

pub back_long : (x : Noted) (g : Rig) → length (brought_back x g).decks ≡ length g.decks
unfolding brought_back
back_long x g = either (λ (y : Rig). length y.decks ≡ length g.decks) (eqb x.entry.transport transports) _ _ refl (decks_long _ _ g)

pub row_stays : (n : ℕ) {s₀ s : Here} {l : List (Done (calls n))} → Ran (calls n) s₀ l s → length s.core.decks ≡ length s₀.core.decks
row_stays n start = refl
row_stays n (and_did {k = c} {s = s} r kd an st) = ap (λ (x : Here). length x.core.decks) st ∙ next_long c s.core ∙ row_stays n r
row_stays n (and_saw r kd an) = row_stays n r
row_stays n (and_not r kd an) = row_stays n r
row_stays n (and_undid {e = e} {s = s} r q st) = ap (λ (x : Here). length x.core.decks) st ∙ back_long e s.core ∙ row_stays n r

-- and each transport's reel as long as at its mount
pub blocks_stay : (n : ℕ) (c : Call) (s : Here) → kind_now n c s ≡ stepped → (i : ℕ) → (deck_at (next_rig c s.core) i).transport.blocks ≡ (deck_at s.core i).transport.blocks
unfolding on_call call_kind next_rig
blocks_stay n (step k a h) s e i =
    let t = step_taken n (coupled_from n s) k a e in
    by_test (eqb i k)
    (λ q. subst (λ (j : ℕ). (deck_at (with_core k (step_of a (core_of k s.core)).after s.core) j).transport.blocks ≡ (deck_at s.core j).transport.blocks) (sym (eqb-true i k q)) (own_blocks n k a h s t))
    (λ q. ap (λ d. d.transport.blocks) (other_deck i k (step_of a (core_of k s.core)).after s.core (eqb-false i k q)))
blocks_stay n (store place bytes) s e i = refl
blocks_stay n (read_register k r) s e i = refl

-- so that one that is mounted after a step was mounted before it
pub every_next : (n : ℕ) (ks : List ℕ) (c : Call) (s : Here) → kind_now n c s ≡ stepped → EveryMounted ks s → EveryMounted ks (step_to c s)
every_next n ks c s e every k h m = every k (rw (next_long c s.core) at h) (subst (λ (b : ℕ). not (eqb b 0) ≡ true) (blocks_stay n c s e k) m)

-- the step's own transport stands in the row, unless it is none's
stands_after : (n : ℕ) (c : Call) (s : Here) → kind_now n c s ≡ stepped → (eqb (name_of c) transports || standing_in (seats_of (next_rig c s.core)) (name_of c)) ≡ true
unfolding on_call call_kind name_of
stands_after n (step k a h) s e =
    let t = step_taken n (coupled_from n s) k a e in
    let c : Call = step k a h in
    let there : absent_in (length (next_rig c s.core).decks) k ≡ false = rw (next_long c s.core) t.present in
    let on : is_mounted (deck_at (next_rig c s.core) k).transport ≡ true = subst (λ (b : ℕ). not (eqb b 0) ≡ true) (sym (blocks_stay n c s e k)) (taken_mounted n k a h s t) in
    rw (stands_by (next_rig c s.core) k there on) (or-true (eqb k transports))
stands_after n (store place bytes) s e = refl
stands_after n (read_register k r) s e = read_none _ e

-- the call step back, after any step
pub back_stepped : (n : ℕ) (ks : List ℕ) (c : Call) (s : Here) → Good n ks s → EveryMounted ks s → kind_now n c s ≡ stepped
    → back_over (coupled_from n (step_to c s)) n ≡ told (Ok (answer.Step false)) (coupled_from n s)
back_stepped n ks c s f every e =
    back_named n ks (step_to c s) (keeps_good n ks c s f e) (every_next n ks c s e every) (name_of c) (names n c s (omega (arith, name_small n c s e))) (long_entry n c s) (stands_after n c s e)
    ∙ undo_newest n c s f.whole e
