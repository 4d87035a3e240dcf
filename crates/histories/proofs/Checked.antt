-- A step back over the row from any coupled world, made up or not: if it is done, refusals 1 to 4 let the next step back pass, so that it can be refused with 6, 8 or 11
-- alone.
use mathlib.Core.Bool.{Bool, true, false, ◌||◌, not}
use mathlib.Core.Logic.{◌⊎◌, inl, inr, ⊎_elim}
use mathlib.Core.Path.{◌≡◌, refl, sym, subst, ◌∙◌}
use Prim.Native.Nat.{ℕ, ◌%◌, ◌≤◌, ◌<◌}
use native.Mathlib.Omega.{arith}
use borrow.Author.Tests.{eqb-false, eqb-true, not-false}
use lib.Dec.{eqb, ltb}
use lib.ListN.{length}
use lib.Seq.{get_or-set_same}
use Rattle.std.specs.Prelude.{Result, Ok, Err, ⊤}
use Rattle.lists.specs.Pick.{pick}
use Rattle.lists.proofs.Cases.{by_test, past, pick_told}
use Rattle.state.specs.Legal.{Legal}
use Rattle.state.proofs.Tests.{either, neither}
use Rattle.touched.specs.Touches.{memory_back}
use Rattle.entries.specs.Entries.{entry_bare, entry_fits, newest_entry, saved_in, transports}
use Rattle.entries.specs.declared.Entry.{Entry}
use Rattle.state.specs.declared.refusal.Refusal.TheVariants as refusal
use Rattle.state.specs.declared.refusal.Refusal.{Refusal}
use Rattle.state.proofs.Behind.{behind_told, both_pass, never}
use Rattle.worlds.specs.Calls.{entry_wrong, no_place_back, refused_as, undo_by, undo_on, undone, without}
use Rattle.worlds.specs.Passes.{Passed}
use Rattle.worlds.specs.Rows.{back_refusal, is_mounted, row_checked, session_over, standing_in, unit_over}
use Rattle.worlds.specs.Worlds.{Answered, World, session_of}
use Rattle.worlds.specs.declared.Seat.{Seat}
use Rattle.worlds.specs.Coupled.{Coupled, CoupledAnswer, Deck, back_checked, back_over, core_of, core_of_none, coupler_in, deck_at, deck_of, lifted, lifted_none, named_in, no_deck, refused_with, seats_of, undo_named, undo_none, undo_none_by, undone_none, view_of, view_of_none, with_core, with_memory}
use Rattle.worlds.proofs.Coupling.{CouplerPassed, RowPassed, all_passed, decks_long, other_deck, row_passed, standing_is}
use Rattle.worlds.proofs.Passing.{let_pass, passed}
use Rattle.sessions.specs.Calling.{step_kind}
use Rattle.sessions.specs.Session.{stepped}
use Rattle.sessions.proofs.Backs.{back_passed, back_to, length_memory_back}
use Rattle.sessions.proofs.Taken.{refused_none}
use Rattle.histories.proofs.Rows.{is_present, seat_is, seats_long, stands_by}

-- the row of w passes, for a journal of n bytes
abbrev pub RowRight : ℕ → Coupled → Type 0
RowRight n w = row_checked (coupler_in w) (seats_of w.rig) (length w.rig.memory) n ≡ Ok tt

-- a transport passes as a session of its own
abbrev DeckPassed : ℕ → Coupled → ℕ → Type 0
DeckPassed n w k = Passed (session_over (coupler_in w) (deck_at w.rig k).transport) (length w.rig.memory) (length (deck_at w.rig k).reel) n

-- each that is mounted, and one of the first four in the row
module _ (n : ℕ) (w : Coupled) where
  decks_passed : RowPassed (coupler_in w) (seats_of w.rig) (length w.rig.memory) n → (k : ℕ) → k < length w.rig.decks → k < transports → is_mounted (deck_at w.rig k).transport ≡ true → DeckPassed n w k
  decks_passed p k b f m =
      let z = p.seats k (stands_by w.rig k (is_present (length w.rig.decks) k b f) m) in
      passed (session_over (coupler_in w) (deck_at w.rig k).transport) (length w.rig.memory) (length (deck_at w.rig k).reel) n (rw (seat_is w.rig k f) at z)

  row_right_by : CouplerPassed (coupler_in w) (length w.rig.memory) n → ((k : ℕ) → k < length w.rig.decks → k < transports → is_mounted (deck_at w.rig k).transport ≡ true → DeckPassed n w k) → RowRight n w
  row_right_by c f =
      all_passed (coupler_in w) (seats_of w.rig) (length w.rig.memory) n c
      (λ k b m.
      let i = seats_long w.rig k b in
      let is = seat_is w.rig k i.1 in
      let on : is_mounted (deck_at w.rig k).transport ≡ true = subst (λ (x : Seat). is_mounted x.transport ≡ true) is m in
      rw is (let_pass (session_over (coupler_in w) (deck_at w.rig k).transport) (length w.rig.memory) (length (deck_at w.rig k).reel) n (f k i.0 i.1 on)))

-- w' has the shared numbers of w but for fewer used bytes, and a memory as long
pub record Shrunk (w w' : Coupled) : Type 0 where
  pub mounted : w'.rig.mounted ≡ w.rig.mounted
  pub memory : length w'.rig.memory ≡ length w.rig.memory
  pub rows : length w'.rig.decks ≡ length w.rig.decks
  pub journal : w'.ledger.length ≡ w.ledger.length
  pub used : w'.ledger.used ≤ w.ledger.used

module _ (n : ℕ) (w w' : Coupled) (s : Shrunk w w') where
  shared_shrunk : CouplerPassed (coupler_in w) (length w.rig.memory) n → CouplerPassed (coupler_in w') (length w'.rig.memory) n
  shared_shrunk p =
      record {
        even = subst (λ (y : ℕ). y % 2 ≡ 0) (sym s.mounted) p.even;
        memory_least = omega (arith, p.memory_least, s.mounted);
        memory_most = omega (arith, p.memory_most, s.mounted);
        used = omega (arith, p.used, s.used, s.journal);
        limit = omega (arith, p.limit, s.journal);
        memory_is = s.memory ∙ p.memory_is ∙ sym s.mounted;
        journal_is = p.journal_is ∙ sym s.journal;
      }

  -- a deck that is the same passes again
  deck_shrunk : (k : ℕ) → deck_at w'.rig k ≡ deck_at w.rig k → DeckPassed n w k → DeckPassed n w' k
  deck_shrunk k e p =
      subst (λ (d : Deck). Passed (session_over (coupler_in w') d.transport) (length w'.rig.memory) (length d.reel) n) (sym e)
      (record {
        legal = subst (λ (m : ℕ). Legal (unit_over m (deck_at w.rig k).transport)) (sym s.mounted) p.legal;
        memory_is = s.memory ∙ p.memory_is ∙ sym s.mounted;
        reel_is = p.reel_is;
        journal_is = p.journal_is ∙ sym s.journal;
        used = omega (arith, p.used, s.used, s.journal);
        limit = omega (arith, p.limit, s.journal);
      })

  -- so the row passes again, if those decks that are not the same do
  row_shrunk : RowRight n w → ((k : ℕ) → k < length w.rig.decks → k < transports → is_mounted (deck_at w'.rig k).transport ≡ true → (deck_at w'.rig k ≡ deck_at w.rig k) ⊎ DeckPassed n w' k) → RowRight n w'
  row_shrunk h f =
      let p = row_passed (coupler_in w) (seats_of w.rig) (length w.rig.memory) n h in
      row_right_by n w' (shared_shrunk p.shared)
      (λ k b m on.
      let inside : k < length w.rig.decks = omega (arith, b, s.rows) in
      ⊎_elim
      (λ e. deck_shrunk k e (decks_passed n w p k inside m (subst (λ (d : Deck). is_mounted d.transport ≡ true) e on)))
      (λ z. z)
      (f k inside m on))

-- an answer is no step, or leaves a row that passes
abbrev Passes : ℕ → CoupledAnswer → Type 0
Passes n x = step_kind x.answer ≡ stepped → RowRight n x.coupled

-- an entry that names none
none_passes : (n : ℕ) (w : Coupled) → RowRight n w → Passes n (lifted_none w (undo_none (view_of_none w)))
unfolding undo_none undo_none_by lifted_none step_kind undone_none without core_of_none
none_passes n w h =
    let e : Entry = newest_entry 0 w.ledger.bytes in
    either (λ (x : Answered). Passes n (lifted_none w x)) (not (entry_fits e w.ledger.used (view_of_none w).core.unit.lengths (length w.rig.memory) 0 0)) (refused_as refusal.Entry (view_of_none w)) _
    (λ z. refused_none z)
    (λ z.
    row_shrunk n w (record { rig = with_memory (memory_back e.touched (saved_in e w.ledger.bytes) w.rig.memory) w.rig; ledger = without w.ledger e })
    (record { mounted = refl; memory = length_memory_back e.touched (saved_in e w.ledger.bytes) w.rig.memory; rows = refl; journal = refl; used = omega arith }) h
    (λ k b m on. inl refl))

-- one that names transport k, which stands in the row
module _ (n : ℕ) (w : Coupled) (k : ℕ) (h : RowRight n w) (st : standing_in (seats_of w.rig) k ≡ true) where
  abbrev view : World
  view = view_of k w

  abbrev newest : Entry
  newest = newest_entry view.core.objects view.ledger.bytes

  inside : (k < length w.rig.decks) × (k < transports)
  inside = seats_long w.rig k (standing_is (seats_of w.rig) k st).0

  view_passed : Passed (session_of view) (length view.core.memory) (length view.core.reel) n
  unfolding core_of
  view_passed =
      let p = row_passed (coupler_in w) (seats_of w.rig) (length w.rig.memory) n h in
      let z = p.seats k st in
      passed (session_over (coupler_in w) (deck_at w.rig k).transport) (length w.rig.memory) (length (deck_at w.rig k).reel) n (rw (seat_is w.rig k inside.1) at z)

  module _ (right : entry_wrong view newest ≡ false) where
    abbrev left : Coupled
    left = record { rig = with_core k (back_to view newest).core w.rig; ledger = (back_to view newest).ledger }

    after : Passed (session_of (back_to view newest)) (length (back_to view newest).core.memory) (length (back_to view newest).core.reel) n
    after = back_passed n view newest view_passed right

    back_mounted : (back_to view newest).core.unit.lengths.memory ≡ w.rig.mounted
    unfolding core_of undone
    back_mounted = sym after.memory_is ∙ length_memory_back newest.touched (saved_in newest w.ledger.bytes) w.rig.memory ∙ view_passed.memory_is

    shrunk : Shrunk w left
    unfolding with_core undone without core_of
    shrunk =
        record {
          mounted = refl;
          memory = length_memory_back newest.touched (saved_in newest w.ledger.bytes) w.rig.memory;
          rows = decks_long k (back_to view newest).core w.rig;
          journal = refl;
          used = omega arith;
        }

    own : DeckPassed n left k
    unfolding with_core undone core_of
    own =
        rw (get_or-set_same w.rig.decks k (deck_of (back_to view newest).core) no_deck inside.0, ← back_mounted) after

    row_after : RowRight n left
    row_after =
        row_shrunk n w left shrunk h
        (λ i b m on.
        by_test (eqb i k)
        (λ e. inr (subst (DeckPassed n left) (sym (eqb-true i k e)) own))
        (λ e. inl (other_deck i k (back_to view newest).core w.rig (eqb-false i k e))))

  unit_passes : Passes n (lifted k w (undo_on view))
  unfolding undo_on undo_by lifted step_kind
  unit_passes =
      pick_told (λ (x : Answered). Passes n (lifted k w x)) (entry_wrong view newest) (refused_as refusal.Entry view) _
      (λ t z. refused_none z)
      (λ t. either (λ (x : Answered). Passes n (lifted k w x)) (no_place_back view.core newest) (refused_as refusal.Table view) _ (λ z. refused_none z) (λ z. row_after t))

-- what the check of a step back has shown
module _ (n : ℕ) (w : Coupled) (k : ℕ) where
  check_shows : back_refusal (coupler_in w) (seats_of w.rig) (length w.rig.memory) n k ≡ Ok tt → (RowRight n w) × ((eqb k transports || standing_in (seats_of w.rig) k) ≡ true)
  unfolding back_refusal
  check_shows z =
      let c : Result ⊤ Refusal = row_checked (coupler_in w) (seats_of w.rig) (length w.rig.memory) n in
      let named : Bool = eqb k transports || standing_in (seats_of w.rig) k in
      let short : Bool = ltb w.ledger.used entry_bare in
      let third : Result ⊤ Refusal = pick (short || not named) (Err refusal.Entry) (Ok tt) in
      let second : Result ⊤ Refusal = pick (eqb w.ledger.used 0) (Err refusal.Empty) third in
      let o = both_pass c second z in
      let p = past (eqb w.ledger.used 0) (Err refusal.Empty) third (Ok tt) (never _) o.1 in
      let q = past (short || not named) (Err refusal.Entry) (Ok tt) (Ok tt) (never _) p.1 in
      (o.0, not-false named (neither short (not named) q.0).1)

  named_passes : RowRight n w → (eqb k transports || standing_in (seats_of w.rig) k) ≡ true → Passes n (undo_named w k)
  unfolding undo_named
  named_passes h d =
      pick_told (Passes n) (eqb k transports) (lifted_none w (undo_none (view_of_none w))) (lifted k w (undo_on (view_of k w)))
      (λ t. none_passes n w h)
      (λ t. unit_passes n w k h (rw t at d))

-- "8 .. or it would restore a state that 1 refuses": after a step back that is done, refusals 1 to 4 let the next pass
pub back_checked_lem : (n : ℕ) (w : Coupled) → step_kind (back_over w n).answer ≡ stepped → RowRight n (back_over w n).coupled
unfolding back_over step_kind
back_checked_lem n w =
    let k : ℕ = named_in w.ledger.bytes in
    behind_told (Passes n) (back_checked w n) (λ r. refused_with r w) (undo_named w k)
    (λ r t z. refused_none z)
    (λ t. let s = check_shows n w k t in named_passes n w k s.0 s.1)
