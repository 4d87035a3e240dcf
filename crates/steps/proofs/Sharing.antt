-- Steps of no transport: what each way out of a host store, and of one undone, leaves is what the definitions say. In the world of none the reel and the table are
-- empty, so refusal 11 is never made there, and an entry that fits fills no place.
use mathlib.Core.Path.{◌≡◌, refl, sym, ap, ◌∙◌}
use mathlib.Core.Bool.{Bool, true, false, not}
use mathlib.Core.List.{List, []}
use Prim.Native.Nat.{ℕ, ◌+◌, ◌-◌, ◌≤◌, ◌<◌}
use native.Mathlib.Omega.{arith}
use borrow.Author.Tests.{not-false, not-true}
use lib.ListN.{length}
use lib.Seq.{sets}
use Rattle.state.specs.declared.Lengths.{Lengths}
use Rattle.std.specs.Prelude.{Ok, Err}
use Rattle.state.specs.declared.refusal.Refusal.TheVariants as refusal
use Rattle.commands.specs.Answers.{is_step}
use Rattle.commands.specs.declared.plans.Done.TheVariants as answer
use Rattle.touched.specs.Touches.{PlacesIn, Restored, Sizes}
use Rattle.touched.specs.declared.Touched.{Touched}
use Rattle.unit.specs.Cores.{Core}
use Rattle.unit.specs.Steps.{Step, store_wrong, stored, too_small}
use Rattle.unit.specs.Touching.{host_touched}
use Rattle.unit.proofs.Touches.{host_run}
use Rattle.entries.specs.Entries.{entry_bare, entry_bytes, entry_fits, entry_length, newest_entry, saved_in, transports, used_in}
use Rattle.entries.specs.declared.Entry.{Entry}
use Rattle.entries.proofs.Fitting.{Fitting, fitting}
use Rattle.entries.proofs.Joined.{run_whole}
use Rattle.entries.proofs.Used.{newest_inside, used_less}
use Rattle.worlds.specs.Worlds.{Leaves}
use Rattle.worlds.specs.Calls.{outcome, taken_as, without}
use Rattle.worlds.specs.Coupled.{shared_outcome, undo_none, undo_none_by, undone_none, world_of_none}
use Rattle.worlds.specs.Rows.{coupler_checked, no_transport, session_over}
use Rattle.worlds.specs.declared.Coupler.{Coupler}
use Rattle.worlds.specs.declared.Session.{Session}
use Rattle.worlds.specs.declared.Transport.{Transport}
use Rattle.worlds.proofs.Coupling.{coupler_passed}
use Rattle.steps.specs.Readiness.{NoneUndoable, StoreReady}
use Rattle.steps.proofs.Outs.{left_alone, taken_goes, taken_stops}
use Rattle.steps.proofs.Entered.{store_after, store_entry, store_right}

pub none_sizes : (c : Coupler) (memory journal : ℕ) → coupler_checked c memory journal ≡ Ok tt → Sizes memory 0
none_sizes c memory journal h =
    let p = coupler_passed c memory journal h in
    record { even = rw p.memory_is p.even; even_reel = refl; memory_small = omega (arith, p.memory_is, p.memory_most); reel_small = omega arith }

-- the host's bytes, in n bytes of an entry
module _ (c : Coupler) (m j : List ℕ) (place : ℕ) (bytes : List ℕ) (k : StoreReady c (length m) (length j) place (length bytes)) (n : ℕ) (dn : n ≡ entry_bare + length bytes) where
  abbrev core : Core
  core = (world_of_none c m j).core

  abbrev step : Step
  step = stored core place bytes

  right : store_wrong (length m) place (length bytes) ≡ false
  right = store_right (length m) place (length bytes) k.short k.inside

  abbrev entry_on : Touched → Entry
  entry_on t = record { unit = core.unit; objects = 0; touched = t; transport = transports }

  long : (t : Touched) → t ≡ host_touched place (length bytes) → n ≡ entry_length (entry_on t)
  long t h = dn ∙ sym (run_whole (entry_on t) place (length bytes) (h ∙ host_run place (length bytes)))

  no_objects : 0 ≡ step.after.objects
  no_objects = ap (λ (d : Core). d.objects) (store_after core place bytes right (sets m place bytes) refl)

  none_small : too_small 0 0 0 ≡ false
  unfolding too_small
  none_small = refl

  pub store_full : c.journal - c.used < n → Leaves (taken_as (world_of_none c m j) step (Ok (answer.Step false))) j (shared_outcome c (Err refusal.Room)) m [] [] j
  store_full h =
      let t : Touched = host_touched place (length bytes) in
      taken_stops transports (session_over c no_transport) m [] [] j step (entry_on t) n 0 (store_entry core place bytes right transports t refl) (long t refl) no_objects none_small (Ok (answer.Step false)) (shared_outcome c (Err refusal.Room)) h refl refl

  -- what the entry needs, and that it fits the lent journal
  pub store_room : n ≤ c.journal - c.used → c.used + entry_bare + length bytes ≤ length j
  store_room h =
      let p = coupler_passed c (length m) (length j) k.right in
      omega (arith, p.used, p.journal_is)

  -- the session of none, as the code makes it
  module _ (t : Transport) (s : Session) (dt : t ≡ no_transport) (ds : s ≡ session_over c t) where
    pub store_goes : (x : Touched) (m' j' : List ℕ) → x ≡ host_touched place (length bytes) → n ≤ c.journal - c.used
        → j' ≡ sets j c.used (entry_bytes (record { unit = s.unit; objects = s.objects; touched = x; transport = transports }) m [] [])
        → m' ≡ sets m place bytes
        → Leaves (taken_as (world_of_none c m j) step (Ok (answer.Step false))) j (outcome (Ok (answer.Step false)) (session_over (record { used = c.used + n; memory = c.memory; journal = c.journal }) no_transport)) m' [] [] j'
    unfolding is_step
    store_goes x m' j' dx h pj pm =
        let same : s ≡ session_over c no_transport = ds ∙ ap (session_over c) dt in
        let entered : j' ≡ sets j c.used (entry_bytes (entry_on x) m [] []) = pj ∙ ap (λ (y : Session). sets j c.used (entry_bytes (record { unit = y.unit; objects = y.objects; touched = x; transport = transports }) m [] [])) same in
        let whole = long x dx in
        taken_goes transports (session_over c no_transport) m [] [] j step (entry_on x) n 0 (store_entry core place bytes right transports x dx) whole no_objects none_small (Ok (answer.Step false)) core.unit m' [] [] j' refl h
        (omega (arith, whole, dn, store_room h))
        entered
        (store_after core place bytes right m' pm)

-- the newest entry e, tested by f: refusal 8, or brought back
module _ (c : Coupler) (m j : List ℕ) (k : NoneUndoable c (length m) (length j)) (e : Entry) (f : Bool) (de : e ≡ newest_entry 0 (used_in c.used j)) (df : f ≡ entry_fits e c.used (record { memory = c.memory; blocks = 0 }) (length m) 0 0) where
  abbrev lengths : Lengths
  lengths = record { memory = c.memory; blocks = 0 }

  pub none_fits : not f ≡ false → Fitting e c.used lengths (length m) 0 0
  none_fits t = fitting e c.used lengths (length m) 0 0 (none_sizes c (length m) (length j) k.right) (sym df ∙ not-false f t)

  -- it filled no place
  pub none_places : not f ≡ false → PlacesIn e.touched 0
  none_places t =
      let top = (none_fits t).filled in
      rw de (newest_inside 0 0 (used_in c.used j) (rw de at top) (omega arith))

  pub none_stops : not f ≡ true → Leaves (undo_none (world_of_none c m j)) j (shared_outcome c (Err refusal.Entry)) m [] [] j
  unfolding undo_none undo_none_by
  none_stops t =
      rw (← de, ← df, not-true f t)
      (left_alone transports (session_over c no_transport) m [] [] j (Err refusal.Entry) (shared_outcome c (Err refusal.Entry)) refl refl)

  pub none_goes : (n : ℕ) (m' r tb r' tb' : List ℕ) → not f ≡ false → n ≡ entry_length e → Restored e.touched (saved_in e (used_in c.used j)) m r tb m' r' tb'
      → Leaves (undo_none (world_of_none c m j)) j (outcome (Ok (answer.Step false)) (session_over (record { used = c.used - n; memory = c.memory; journal = c.journal }) no_transport)) m' [] [] j
  unfolding undo_none undo_none_by undone_none without
  none_goes n m' r tb r' tb' t dn b =
      let less : used_in (c.used - n) (used_in c.used j) ≡ used_in (c.used - n) j = used_less (c.used - n) c.used j (omega arith) in
      rw (← de, ← df, not-false f t, ← dn)
      (record { answer = refl; world = rw (b.memory, less); unless_step = λ t. refl })
