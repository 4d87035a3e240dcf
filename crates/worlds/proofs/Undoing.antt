-- A step is undone by its entry: a law of the core, for any step that changes nothing but what it touches. The ledger gives the entry back as
-- it was noted: a law of the ledger. Together: the step back after a step gives the world before it.
use mathlib.Core.Path.{◌≡◌, refl, sym, ap, ◌∙◌}
use mathlib.Core.Bool.{true, false}
use Prim.Native.Nat.{ℕ, ◌+◌, ◌-◌, ◌≤◌}
use native.Mathlib.Omega.{arith}
use borrow.Author.Tests.{ne_eqb, le-ltb}
use lib.ListN.{length, length-append}
use Rattle.state.specs.Checks.{state_wrong}
use Rattle.state.proofs.Legal.{right}
use Rattle.std.specs.Prelude.{Ok, Err}
use Rattle.state.specs.declared.refusal.Refusal.TheVariants as refusal
use Rattle.commands.specs.Answers.{Answer}
use Rattle.commands.specs.declared.plans.Done.TheVariants as answer
use Rattle.touched.specs.Touches.{TouchedIn, place_below, saved_bytes}
use Rattle.touched.proofs.PutBack.{memory_put_back, reel_put_back, table_put_back}
use Rattle.unit.specs.Cores.{Core}
use Rattle.unit.specs.Steps.{Sound, Step}
use Rattle.unit.proofs.Rows.{enough_back, enough_before}
use Rattle.entries.specs.Entries.{entry_bare, entry_bytes, entry_fits, entry_length, newest_entry, saved_in}
use Rattle.entries.specs.Numbers.{Small}
use Rattle.entries.specs.declared.Entry.{Entry}
use Rattle.entries.proofs.Joined.{entry_whole, length_entry}
use Rattle.entries.proofs.Used.{newest_is, saved_is, used_without}
use Rattle.entries.proofs.Fitting.{fits}
use Rattle.worlds.specs.Worlds.{Ledger, World, answered, session_of}
use Rattle.worlds.specs.Passes.{Fit, Passed}
use Rattle.worlds.specs.Refusals.{checked}
use Rattle.worlds.specs.Calls.{back_on, entry_for, entry_wrong, guarded, absent_place, no_place_back, noted, taken_as, too_full, undo_by, undo_on, undone, without}
use Rattle.worlds.proofs.Passing.{let_pass, passed}

-- the core: whatever a step did to it, its entry undoes it
pub core_undone : (k : ℕ) (c : Core) (x : Step) → Sound c x → undone (entry_for k c x) (saved_bytes x.touched c.memory c.reel c.table) x.after ≡ c
unfolding undone entry_for
core_undone k c x s =
    rw (
      memory_put_back x.touched c.memory c.reel c.table x.after.memory x.after.reel x.after.table s.only,
      reel_put_back x.touched c.memory c.reel c.table x.after.memory x.after.reel x.after.table s.only,
      table_put_back x.touched c.memory c.reel c.table x.after.memory x.after.reel x.after.table s.only,
    )

-- the ledger: an entry that was noted is found as it was, with its saved bytes, and leaves the ledger as it was. The places that it filled are the last of
-- `top`.
module _ (l : Ledger) (e : Entry) (c : Core) where
  pub noted_newest : (top : ℕ) → Small e → e.touched.place_at ≡ place_below top e.touched.places → newest_entry top (noted l e c).bytes ≡ e
  unfolding noted
  noted_newest top h f = newest_is e c.memory c.reel c.table l.bytes top h f

  pub noted_saved : saved_in e (noted l e c).bytes ≡ saved_bytes e.touched c.memory c.reel c.table
  unfolding noted
  noted_saved = saved_is e c.memory c.reel c.table l.bytes

  pub noted_gone : length l.bytes ≡ l.used → without (noted l e c) e ≡ l
  unfolding without noted
  noted_gone h =
      let less : l.used + entry_length e - entry_length e ≡ l.used = omega arith in
      rw (less, used_without e c.memory c.reel c.table l.bytes l.used h)

  pub noted_long : length l.bytes ≡ l.used → length (noted l e c).bytes ≡ (noted l e c).used
  unfolding noted
  noted_long h = length-append l.bytes (entry_bytes e c.memory c.reel c.table) ∙ rw (length_entry e c.memory c.reel c.table, h)

  pub noted_used : (noted l e c).used ≡ l.used + entry_length e
  unfolding noted
  noted_used = refl

  pub noted_length : (noted l e c).length ≡ l.length
  unfolding noted
  noted_length = refl

-- the world: a step x from w whose entry fits, taken
module _ (n : ℕ) (w : World) (x : Step) (fit : Fit n w) (s : Sound w.core x) where
  abbrev entry : Entry
  entry = entry_for w.number w.core x

  abbrev next : World
  next = record { number = w.number; core = x.after; ledger = noted w.ledger entry w.core }

  was : Passed (session_of w) (length w.core.memory) (length w.core.reel) n
  was = passed (session_of w) (length w.core.memory) (length w.core.reel) n fit.sound

  its_unit : entry.unit ≡ w.core.unit
  unfolding entry_for
  its_unit = refl

  its_places : TouchedIn entry.touched (length w.core.memory) (length w.core.reel)
  unfolding entry_for
  its_places = s.within

  its_filled : entry.touched.place_at ≡ place_below x.after.objects entry.touched.places
  unfolding entry_for
  its_filled = s.filled

  its_fewer : entry.touched.places ≤ x.after.objects
  unfolding entry_for
  its_fewer = s.fewer

  its_objects : entry.objects ≡ w.core.objects
  unfolding entry_for
  its_objects = refl

  module _ (room : w.ledger.used + entry_length entry ≤ w.ledger.length) where
    next_passes : Passed (session_of next) (length x.after.memory) (length x.after.reel) n
    next_passes =
        record {
          legal = s.legal;
          memory_is = s.only.long_memory ∙ was.memory_is ∙ ap (λ l. l.memory) (sym s.lengths);
          reel_is = rw (s.only.long_reel, s.lengths) was.reel_is;
          used = rw (noted_used w.ledger entry w.core, noted_length w.ledger entry w.core) room;
          limit = rw (noted_length w.ledger entry w.core) was.limit;
          journal_is = rw (noted_length w.ledger entry w.core) was.journal_is;
        }

    pub passes_after : checked (session_of next) (length x.after.memory) (length x.after.reel) n ≡ Ok tt
    passes_after = let_pass (session_of next) (length x.after.memory) (length x.after.reel) n next_passes

    pub fit_after : Fit n next
    fit_after = record { sound = passes_after; whole = noted_long w.ledger entry w.core fit.whole; named = fit.named }

    right_entry : entry_wrong next entry ≡ false
    unfolding entry_wrong
    right_entry =
        let f : entry_fits entry next.ledger.used x.after.unit.lengths (length x.after.memory) (length x.after.reel) x.after.objects ≡ true = fits entry next.ledger.used x.after.unit.lengths (length x.after.memory) (length x.after.reel) x.after.objects
        (record {
          inside = rw (noted_used w.ledger entry w.core) (omega arith);
          places = rw (s.only.long_memory, s.only.long_reel) its_places;
          lengths = ap (λ u. u.lengths) its_unit ∙ sym s.lengths;
          filled = its_fewer;
        }) in
        let same : state_wrong entry.unit ≡ false = ap state_wrong its_unit ∙ right w.core.unit was.legal in
        rw (f, same)

    long_entry : entry_bare ≤ next.ledger.used
    long_entry = rw (noted_used w.ledger entry w.core) (omega (arith, entry_whole entry))

    -- the table was large enough for the objects before and after the step, and so it is now
    module _ (large : absent_place w.core x ≡ false) where
      large_back : no_place_back x.after entry ≡ false
      large_back = rw (its_objects, s.only.long_table) (enough_back (length w.core.table) w.core.objects x.after.objects large)

      small : Small entry
      unfolding entry_for
      small =
          let l = was.legal in
          let i = s.within in
          record {
            position = omega (arith, l.place, l.capacity, l.blocks_most);
            end = omega (arith, l.capacity, l.blocks_most);
            pointer = omega (arith, l.pointer);
            class = omega (arith, l.class);
            memory = omega (arith, l.memory_most);
            blocks = omega (arith, l.blocks_most);
            data_at_fits = omega (arith, i.in_memory, was.memory_is, l.memory_most);
            data_length_fits = omega (arith, i.in_memory, was.memory_is, l.memory_most);
            message_at_fits = omega (arith, i.message_in_memory, was.memory_is, l.memory_most);
            message_length_fits = omega (arith, i.message_in_memory, was.memory_is, l.memory_most);
            reel_at_fits = omega (arith, i.in_reel, was.reel_is, l.blocks_most);
            reel_blocks_fits = omega (arith, i.in_reel, was.reel_is, l.blocks_most);
            transport = omega (arith, fit.named);
            objects = omega (arith, (enough_before (length w.core.table) w.core.objects x.after.objects large).few);
          }

      undone_by : undo_by next entry ≡ answered (Ok (answer.Step false)) w
      unfolding undo_by entry_for
      undone_by = rw (right_entry, large_back, noted_saved w.ledger entry w.core, core_undone w.number w.core x s, noted_gone w.ledger entry w.core fit.whole)

      pub taken_undone : back_on next n ≡ answered (Ok (answer.Step false)) w
      unfolding back_on guarded undo_on
      taken_undone =
          rw (
            passes_after,
            ne_eqb next.ledger.used 0 (λ z. omega (arith, long_entry)),
            le-ltb next.ledger.used entry_bare long_entry,
            noted_newest w.ledger entry w.core x.after.objects small its_filled,
            undone_by,
          )

-- a step refused for the table changes nothing, nor does one refused for room
pub refused_eleven : (w : World) (x : Step) (a : Answer) → absent_place w.core x ≡ true → taken_as w x a ≡ answered (Err refusal.Table) w
unfolding taken_as
refused_eleven w x a t = rw t

pub refused_nine : (w : World) (x : Step) (a : Answer) → absent_place w.core x ≡ false → too_full w.ledger (entry_for w.number w.core x) ≡ true → taken_as w x a ≡ answered (Err refusal.Room) w
unfolding taken_as
refused_nine w x a large t = rw (large, t)

-- and one that is taken is undone by the step back
pub step_back_undoes : (n : ℕ) (w : World) (x : Step) (a : Answer) → Fit n w → Sound w.core x → absent_place w.core x ≡ false → w.ledger.used + entry_length (entry_for w.number w.core x) ≤ w.ledger.length → too_full w.ledger (entry_for w.number w.core x) ≡ false
    → back_on (taken_as w x a).world n ≡ answered (Ok (answer.Step false)) w
unfolding taken_as
step_back_undoes n w x a fit s large room t = rw (large, t) (taken_undone n w x fit s room large)
