-- Laws of the coupler: a transport's core taken out of the rig and put back, what the checks over a row let pass, and a host store undone.
use mathlib.Core.Path.{◌≡◌, refl, ap}
use mathlib.Core.Bool.{Bool, true, false, ◌&&◌, ◌||◌, not, and-eq-true_iff}
use mathlib.Core.List.{List, [], ◌∷◌}
use Prim.Native.Nat.{ℕ, zero, suc, ◌+◌, ◌*◌, ◌%◌, ◌≤◌, ◌<◌}
use native.Mathlib.Omega.{arith}
use borrow.Author.Tests.{eq-eqb, eqb-true, le-leb, le-ltb, leb-false, lt-leb, ltb-false, not-false, not-true}
use lib.Dec.{eqb, leb, ltb}
use lib.ListN.{get_or, length, length-set}
use lib.Seq.{get_or-set_other, get_or-set_same, length-sets, set-get_or, set-set, sets}
use Rattle.lists.specs.Pick.{pick}
use Rattle.lists.proofs.Cases.{past, pick_told}
use Rattle.tape.specs.Numbers.{block_bytes}
use Rattle.tape.proofs.Accepted.{clash}
use Rattle.std.specs.Prelude.{Result, Ok, Err, ⊤}
use Rattle.state.specs.declared.refusal.Refusal.{Refusal}
use Rattle.state.specs.declared.refusal.Refusal.TheVariants as refusal
use Rattle.state.proofs.Behind.{never}
use Rattle.state.specs.Checks.{memory_limit, memory_right, state_wrong}
use Rattle.state.proofs.Legal.{legal, memory_fit, right}
use Rattle.state.proofs.Tests.{neither}
use Rattle.commands.specs.Answers.{Answer}
use Rattle.commands.specs.declared.plans.Done.TheVariants as answer
use Rattle.touched.specs.Touches.{Sizes, place_below, saved_bytes}
use Rattle.touched.proofs.PutBack.{memory_put_back}
use Rattle.unit.specs.Asks.{host_store}
use Rattle.unit.specs.Cores.{Core}
use Rattle.unit.specs.Steps.{Step, host_limit, step_of, store_wrong, stored}
use Rattle.unit.specs.Touching.{host_touched}
use Rattle.unit.proofs.Touches.{host_in, host_only}
use Rattle.entries.specs.Entries.{entry_fits, transports}
use Rattle.entries.specs.Numbers.{Small}
use Rattle.entries.specs.declared.Entry.{Entry}
use Rattle.entries.proofs.Fitting.{fits}
use Rattle.worlds.specs.Calls.{entry_for, absent_place, noted, taken_as, taken_by, too_full}
use Rattle.worlds.specs.Worlds.{Answered, World, answered}
use Rattle.worlds.specs.Passes.{Passed}
use Rattle.worlds.specs.Refusals.{checked, journal_limit}
use Rattle.std.specs.List.{list_any}
use Rattle.worlds.specs.Rows.{absent_in, coupler_checked, coupler_wrong, is_mounted, no_seat, reel_seat_wrong, row_checked, session_over, standing_in, state_seat_wrong, unit_over}
use Rattle.worlds.specs.Coupled.{Coupled, Rig, coupler_in, core_of, core_of_none, deck_at, deck_of, lifted, lifted_none, no_deck, told, undo_none, undo_none_by, undone_none, view_of, view_of_none, with_core}
use Rattle.worlds.specs.declared.Coupler.{Coupler}
use Rattle.worlds.specs.declared.Seat.{Seat}
use Rattle.worlds.proofs.Passing.{let_pass, passed}
use Rattle.worlds.proofs.Undoing.{noted_gone, noted_newest, noted_saved, noted_used}

-- a core that was put back is taken out as it was; memory's length is the rig's and not the core's
pub core_put : (k : ℕ) (c : Core) (g : Rig) → k < length g.decks → c.unit.lengths.memory ≡ g.mounted → core_of k (with_core k c g) ≡ c
unfolding core_of with_core
core_put k c g h e = rw (get_or-set_same g.decks k (deck_of c) no_deck h, ← e)

-- put back as it was taken out it leaves the rig, also where there is no such deck
pub put_core : (k : ℕ) (g : Rig) → with_core k (core_of k g) g ≡ g
unfolding core_of with_core
put_core k g = rw (set-get_or g.decks k no_deck)

-- the other decks stay, and the row is as long
pub other_deck : (i k : ℕ) (c : Core) (g : Rig) → (i ≡ k → ⊥) → deck_at (with_core k c g) i ≡ deck_at g i
unfolding with_core
other_deck i k c g h = get_or-set_other g.decks k i (deck_of c) no_deck h

pub decks_long : (k : ℕ) (c : Core) (g : Rig) → length (with_core k c g).decks ≡ length g.decks
unfolding with_core
decks_long k c g = length-set g.decks k (deck_of c)

-- the last that was put stands
pub put_put : (k : ℕ) (c d : Core) (g : Rig) → with_core k c (with_core k d g) ≡ with_core k c g
unfolding with_core
put_put k c d g = rw (set-set g.decks k (deck_of d) (deck_of c))

-- a call that leaves its view leaves the coupled world
pub refused_same : (k : ℕ) (w : Coupled) (a : Answer) → lifted k w (answered a (view_of k w)) ≡ told a w
unfolding lifted
refused_same k w a = rw (put_core k w.rig)

pub refused_none : (w : Coupled) (a : Answer) → lifted_none w (answered a (view_of_none w)) ≡ told a w
unfolding lifted_none core_of_none
refused_none w a = refl

-- what a call of no transport knows that 1, 2 and 4 let pass
pub record CouplerPassed (c : Coupler) (memory journal : ℕ) : Type 0 where
  pub even : c.memory % 2 ≡ 0
  pub memory_least : 2 ≤ c.memory
  pub memory_most : c.memory ≤ memory_limit
  pub used : c.used ≤ c.journal
  pub limit : c.journal ≤ journal_limit
  pub memory_is : memory ≡ c.memory
  pub journal_is : journal ≡ c.journal

-- seat k passes as a session of its own
abbrev pub SeatPassed : Coupler → List Seat → ℕ → ℕ → ℕ → Type 0
SeatPassed c row memory journal k = checked (session_over c (get_or row k no_seat).transport) memory (get_or row k no_seat).reel journal ≡ Ok tt

-- what a step back knows that 1 to 4 let pass: so does every transport that stands in the row
pub record RowPassed (c : Coupler) (row : List Seat) (memory journal : ℕ) : Type 0 where
  pub shared : CouplerPassed c memory journal
  pub seats : (k : ℕ) → standing_in row k ≡ true → SeatPassed c row memory journal k

-- what is shared, as facts about its numbers
module _ (c : Coupler) (memory journal : ℕ) where
  shared_right : coupler_wrong c ≡ false → not (eqb memory c.memory) ≡ false → not (eqb journal c.journal) ≡ false → CouplerPassed c memory journal
  unfolding coupler_wrong
  shared_right h m j =
      let p = neither (not (memory_right c.memory)) (ltb c.journal c.used || ltb journal_limit c.journal) h in
      let t = neither (ltb c.journal c.used) (ltb journal_limit c.journal) p.1 in
      let f = memory_fit c.memory (not-false (memory_right c.memory) p.0) in
      record {
        even = f.0;
        memory_least = f.1;
        memory_most = f.2;
        used = ltb-false c.journal c.used t.0;
        limit = ltb-false journal_limit c.journal t.1;
        memory_is = eqb-true memory c.memory (not-false (eqb memory c.memory) m);
        journal_is = eqb-true journal c.journal (not-false (eqb journal c.journal) j);
      }

  shared_passes : CouplerPassed c memory journal → coupler_wrong c ≡ false
  unfolding coupler_wrong
  shared_passes p =
      rw (
        eq-eqb (c.memory % 2) 0 p.even,
        le-leb 2 c.memory p.memory_least,
        le-leb c.memory memory_limit p.memory_most,
        le-ltb c.journal c.used p.used,
        le-ltb journal_limit c.journal p.limit,
      )

  pub coupler_passed : coupler_checked c memory journal ≡ Ok tt → CouplerPassed c memory journal
  unfolding coupler_checked
  coupler_passed h =
      let fourth : Result ⊤ Refusal = pick (not (eqb journal c.journal)) (Err refusal.Journal) (Ok tt) in
      let second : Result ⊤ Refusal = pick (not (eqb memory c.memory)) (Err refusal.Memory) fourth in
      let p = past (coupler_wrong c) (Err refusal.State) second (Ok tt) (never _) h in
      let q = past (not (eqb memory c.memory)) (Err refusal.Memory) fourth (Ok tt) (never _) p.1 in
      let r = past (not (eqb journal c.journal)) (Err refusal.Journal) (Ok tt) (Ok tt) (never _) q.1 in
      shared_right p.0 q.0 r.0

  pub coupler_passes : CouplerPassed c memory journal → coupler_checked c memory journal ≡ Ok tt
  unfolding coupler_checked
  coupler_passes p = rw (shared_passes p, eq-eqb memory c.memory p.memory_is, eq-eqb journal c.journal p.journal_is)

-- what is so of none in the list is not so of the one at k
none_of : (p : Seat → Bool) (row : List Seat) (k : ℕ) → list_any p row ≡ false → k < length row → p (get_or row k no_seat) ≡ false
none_of p [] k h b = absurd (omega arith)
none_of p (s ∷ row) zero h b = (neither (p s) (list_any p row) h).0
none_of p (s ∷ row) (suc k) h b = none_of p row k (neither (p s) (list_any p row) h).1 (omega arith)

-- and back
of_none : (p : Seat → Bool) (row : List Seat) → ((k : ℕ) → k < length row → p (get_or row k no_seat) ≡ false) → list_any p row ≡ false
of_none p [] f = refl
of_none p (s ∷ row) f = rw (f 0 (omega arith)) (of_none p row (λ k h. f (suc k) (omega arith)))

-- a test that counts only of one that is mounted
counts : (a b : Bool) → (a && b) ≡ false → a ≡ true → b ≡ false
counts true b h e = h
counts false b h e = absurd (clash cc)

counts_not : (a b : Bool) → (a ≡ true → b ≡ false) → (a && b) ≡ false
counts_not true b f = f refl
counts_not false b f = refl

-- to stand in the row is to be one of its first four, and mounted
module _ (row : List Seat) (k : ℕ) where
  pub standing_is : standing_in row k ≡ true → (k < length row) × (k < transports) × (is_mounted (get_or row k no_seat).transport ≡ true)
  unfolding standing_in absent_in
  standing_is h =
      let p = (and-eq-true_iff (not (absent_in (length row) k)) (is_mounted (get_or row k no_seat).transport)).0 h in
      let q = neither (leb (length row) k) (leb transports k) (not-true (absent_in (length row) k) p.0) in
      (leb-false (length row) k q.0, leb-false transports k q.1, p.1)

  pub is_standing : k < length row → k < transports → is_mounted (get_or row k no_seat).transport ≡ true → standing_in row k ≡ true
  unfolding standing_in absent_in
  is_standing b f m = rw (lt-leb (length row) k b, lt-leb transports k f, m)

module _ (c : Coupler) (row : List Seat) (memory journal : ℕ) where
  -- a mounted seat at which neither 1 nor 3 finds anything is a session that passes
  seat_passes : (s : Seat) → CouplerPassed c memory journal → is_mounted s.transport ≡ true → state_seat_wrong c.memory s ≡ false → reel_seat_wrong s ≡ false
      → checked (session_over c s.transport) memory s.reel journal ≡ Ok tt
  unfolding state_seat_wrong reel_seat_wrong
  seat_passes s p m f g =
      let whole : Bool = eqb s.reel (block_bytes * s.transport.blocks) in
      let state : state_wrong (unit_over c.memory s.transport) ≡ false = counts (is_mounted s.transport) (state_wrong (unit_over c.memory s.transport)) f m in
      let reel : not whole ≡ false = counts (is_mounted s.transport) (not whole) g m in
      let_pass (session_over c s.transport) memory s.reel journal
      (record {
        legal = legal (unit_over c.memory s.transport) state;
        memory_is = p.memory_is;
        reel_is = eqb-true s.reel (block_bytes * s.transport.blocks) (not-false whole reel);
        journal_is = p.journal_is;
        used = p.used;
        limit = p.limit;
      })

  -- and back, for any seat
  seat_right : (s : Seat) → (is_mounted s.transport ≡ true → checked (session_over c s.transport) memory s.reel journal ≡ Ok tt) → (state_seat_wrong c.memory s ≡ false) × (reel_seat_wrong s ≡ false)
  unfolding state_seat_wrong reel_seat_wrong
  seat_right s f =
      let fact : is_mounted s.transport ≡ true → Passed (session_over c s.transport) memory s.reel journal = λ m. passed (session_over c s.transport) memory s.reel journal (f m) in (
        counts_not (is_mounted s.transport) (state_wrong (unit_over c.memory s.transport)) (λ m. right (unit_over c.memory s.transport) (fact m).legal),
        counts_not (is_mounted s.transport) (not (eqb s.reel (block_bytes * s.transport.blocks))) (λ m. ap not (eq-eqb s.reel (block_bytes * s.transport.blocks) (fact m).reel_is)),
      )

  pub row_passed : row_checked c row memory journal ≡ Ok tt → RowPassed c row memory journal
  unfolding row_checked
  row_passed h =
      let fourth : Result ⊤ Refusal = pick (not (eqb journal c.journal)) (Err refusal.Journal) (Ok tt) in
      let third : Result ⊤ Refusal = pick (list_any reel_seat_wrong row) (Err refusal.Reel) fourth in
      let second : Result ⊤ Refusal = pick (not (eqb memory c.memory)) (Err refusal.Memory) third in
      let p = past (coupler_wrong c || list_any (state_seat_wrong c.memory) row) (Err refusal.State) second (Ok tt) (never _) h in
      let q = past (not (eqb memory c.memory)) (Err refusal.Memory) third (Ok tt) (never _) p.1 in
      let r = past (list_any reel_seat_wrong row) (Err refusal.Reel) fourth (Ok tt) (never _) q.1 in
      let t = past (not (eqb journal c.journal)) (Err refusal.Journal) (Ok tt) (Ok tt) (never _) r.1 in
      let n = neither (coupler_wrong c) (list_any (state_seat_wrong c.memory) row) p.0 in
      let all = shared_right c memory journal n.0 q.0 t.0 in
      record {
        shared = all;
        seats = λ k s.
            let i = standing_is row k s in
            seat_passes (get_or row k no_seat) all i.2 (none_of (state_seat_wrong c.memory) row k n.1 i.0) (none_of reel_seat_wrong row k r.0 i.0);
      }

  -- the converse: every seat of the row that is mounted passes, whether it is one of the first four or not
  pub all_passed : CouplerPassed c memory journal → ((k : ℕ) → k < length row → is_mounted (get_or row k no_seat).transport ≡ true → SeatPassed c row memory journal k) → row_checked c row memory journal ≡ Ok tt
  unfolding row_checked
  all_passed p f =
      let seat : (k : ℕ) → k < length row → (state_seat_wrong c.memory (get_or row k no_seat) ≡ false) × (reel_seat_wrong (get_or row k no_seat) ≡ false) = λ k b. seat_right (get_or row k no_seat) (f k b) in
      rw (
        shared_passes c memory journal p,
        of_none (state_seat_wrong c.memory) row (λ k b. (seat k b).0),
        eq-eqb memory c.memory p.memory_is,
        of_none reel_seat_wrong row (λ k b. (seat k b).1),
        eq-eqb journal c.journal p.journal_is,
      )

  -- of a row of at most four that is the converse of `row_passed` itself
  pub row_passes : length row ≤ transports → RowPassed c row memory journal → row_checked c row memory journal ≡ Ok tt
  row_passes l p = all_passed p.shared (λ k b m. p.seats k (is_standing row k b (omega arith) m))

-- a host store of bytes that lie inside memory, in the world of none, whose coupler passes: its entry brings memory back, and no state
module _ (n place : ℕ) (bytes : List ℕ) (v : Coupled) (p : CouplerPassed (coupler_in v) (length v.rig.memory) n) where
  abbrev before : World
  before = view_of_none v

  -- what is stored, if it is not refused
  abbrev store : Step
  store =
      record {
        answer = Ok (answer.Step false);
        touched = host_touched place (length bytes);
        after =
            record {
              unit = before.core.unit;
              objects = before.core.objects;
              memory = sets before.core.memory place bytes;
              reel = before.core.reel;
              table = before.core.table;
            };
      }

  abbrev its_entry : Entry
  its_entry = entry_for transports before.core store

  abbrev behind : World
  behind = record { number = transports; core = store.after; ledger = noted v.ledger its_entry before.core }

  -- a run of memory fills no place of any table
  none_filled : its_entry.touched.place_at ≡ place_below 0 its_entry.touched.places
  unfolding entry_for host_touched
  none_filled = refl

  no_places : its_entry.touched.places ≤ 0
  unfolding entry_for host_touched
  no_places = omega arith

  sizes : Sizes (length v.rig.memory) 0
  sizes = record { even = rw p.memory_is p.even; even_reel = refl; memory_small = omega (arith, p.memory_is, p.memory_most); reel_small = omega arith }

  module _ (inside : place + length bytes ≤ length v.rig.memory) where
    -- "Sound" is not to be had of a core of no blocks, but its parts for memory are
    entry_small : Small its_entry
    unfolding entry_for core_of_none host_touched
    entry_small =
        record {
          position = omega arith;
          end = omega arith;
          pointer = omega arith;
          class = omega arith;
          memory = omega (arith, p.memory_most);
          blocks = omega arith;
          data_at_fits = omega (arith, p.memory_is, p.memory_most);
          data_length_fits = omega (arith, p.memory_is, p.memory_most);
          message_at_fits = omega arith;
          message_length_fits = omega arith;
          reel_at_fits = omega arith;
          reel_blocks_fits = omega arith;
          transport = omega arith;
          objects = omega arith;
        }

    entry_fits_lem : entry_fits its_entry behind.ledger.used behind.core.unit.lengths (length behind.core.memory) 0 0 ≡ true
    unfolding entry_for core_of_none
    entry_fits_lem =
        fits its_entry behind.ledger.used behind.core.unit.lengths (length behind.core.memory) 0 0
        (record {
          inside = rw (noted_used v.ledger its_entry before.core) (omega arith);
          places = rw (length-sets v.rig.memory place bytes) (host_in v.rig.memory [] place bytes sizes inside);
          lengths = refl;
          filled = no_places;
        })

    core_back : undone_none its_entry (saved_bytes its_entry.touched before.core.memory before.core.reel before.core.table) store.after ≡ before.core
    unfolding undone_none entry_for
    core_back =
        rw (memory_put_back (host_touched place (length bytes)) before.core.memory before.core.reel before.core.table store.after.memory before.core.reel before.core.table (host_only before.core.memory before.core.reel place bytes before.core.table))

    stored_undone : length v.ledger.bytes ≡ v.ledger.used → undo_none behind ≡ answered (Ok (answer.Step false)) before
    unfolding undo_none undo_none_by
    stored_undone whole =
        rw (
          noted_newest v.ledger its_entry before.core 0 entry_small none_filled,
          entry_fits_lem,
          noted_saved v.ledger its_entry before.core,
          core_back,
          noted_gone v.ledger its_entry before.core whole,
        )

  -- an answer is either no step, or undone
  abbrev Undone : Bool → Answered → Type 0
  Undone i y = y.answer ≡ Ok (answer.Step i) → undo_none y.world ≡ answered (Ok (answer.Step false)) before

  -- a host store that is taken is undone. That its entry has room in the journal is what the answer says.
  pub host_taken_undone : (i : Bool) → length v.ledger.bytes ≡ v.ledger.used → (taken_by before (step_of (host_store place bytes) before.core) (step_of (host_store place bytes) before.core).answer).answer ≡ Ok (answer.Step i)
      → undo_none (taken_by before (step_of (host_store place bytes) before.core) (step_of (host_store place bytes) before.core).answer).world ≡ answered (Ok (answer.Step false)) before
  unfolding step_of stored store_wrong taken_by taken_as core_of_none
  host_taken_undone i whole =
      let long : Bool = ltb host_limit (length bytes) in
      let far : Bool = ltb (length v.rig.memory) (place + length bytes) in
      pick_told (λ (x : Step). Undone i (taken_by before x x.answer)) (long || far) _ store
      (λ t e. absurd (clash cc))
      (λ t.
      pick_told (Undone i) (absent_place before.core store) _ _
      (λ a e. absurd (clash cc))
      (λ a.
      pick_told (Undone i) (too_full before.ledger its_entry) _ _
      (λ b e. absurd (clash cc))
      (λ b e. stored_undone (ltb-false (length v.rig.memory) (place + length bytes) (neither long far t).1) whole)))
