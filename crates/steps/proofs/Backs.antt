-- What each way out of a step back leaves is what the definitions say.
use mathlib.Core.Path.{◌≡◌, refl, sym, ◌∙◌}
use mathlib.Core.Bool.{Bool, true, false, ◌&&◌, not, and-eq-true_iff}
use mathlib.Core.List.{List}
use Prim.Native.Nat.{ℕ, ◌-◌, ◌≤◌, ◌<◌}
use native.Mathlib.Omega.{arith}
use borrow.Author.Tests.{eq-eqb, le-ltb, lt-ltb, ne_eqb, not-false, not-true}
use lib.ListN.{length}
use Rattle.state.specs.Checks.{state_wrong}
use Rattle.std.specs.Prelude.{Ok, Err}
use Rattle.state.specs.declared.refusal.Refusal.TheVariants as refusal
use Rattle.commands.specs.declared.plans.Done.TheVariants as answer
use Rattle.touched.specs.Touches.{PlacesIn, Restored, Sizes}
use Rattle.unit.specs.Steps.{too_small}
use Rattle.unit.proofs.Rows.{enough_before}
use Rattle.entries.specs.Entries.{entry_bare, entry_fits, entry_length, newest_entry, saved_in, used_in}
use Rattle.entries.specs.declared.Entry.{Entry}
use Rattle.entries.proofs.Fitting.{Fitting, fitting}
use Rattle.entries.proofs.Used.{newest_inside, used_less}
use Rattle.worlds.specs.Worlds.{Leaves, world_of}
use Rattle.worlds.specs.Refusals.{checked}
use Rattle.worlds.specs.Calls.{back_on, entry_wrong, outcome, session, undo_by, undo_on, undone, without}
use Rattle.worlds.specs.declared.Session.{Session}
use Rattle.worlds.specs.Worlds.{Outcome}
use Rattle.steps.proofs.Outs.{guarded_goes, left_alone}

-- the newest entry e, tested by f and w and for its places by g: refusal 8 or 11, or brought back
module _ (s : Session) (m r tb j : List ℕ) (e : Entry) (f w : Bool) (de : e ≡ newest_entry s.objects (used_in s.used j)) (df : f ≡ entry_fits e s.used s.unit.lengths (length m) (length r) s.objects) (dw : w ≡ state_wrong e.unit) where
  pub undo_fits : Sizes (length m) (length r) → not (f && not w) ≡ false → Fitting e s.used s.unit.lengths (length m) (length r) s.objects
  undo_fits z t = fitting e s.used s.unit.lengths (length m) (length r) s.objects z (sym df ∙ ((and-eq-true_iff f (not w)).0 (not-false (f && not w) t)).0)

  pub undo_stops : (number : ℕ) (o : Outcome) → not (f && not w) ≡ true → o.answer ≡ Err refusal.Entry → o.session ≡ s → Leaves (undo_on (world_of number s m r tb j)) j o m r tb j
  unfolding undo_on undo_by entry_wrong
  undo_stops number o t k l = rw (← de, ← df, ← dw, not-true (f && not w) t) (left_alone number s m r tb j (Err refusal.Entry) o k l)

  module _ (t : not (f && not w) ≡ false) (g : Bool) (dg : g ≡ too_small (length tb) s.objects e.objects) where
    pub undo_lacks : (number : ℕ) (o : Outcome) → g ≡ true → o.answer ≡ Err refusal.Table → o.session ≡ s → Leaves (undo_on (world_of number s m r tb j)) j o m r tb j
    unfolding undo_on undo_by entry_wrong
    undo_lacks number o v k l = rw (← de, ← df, ← dw, not-false (f && not w) t, ← dg, v) (left_alone number s m r tb j (Err refusal.Table) o k l)

    -- the places that it filled are the last of those that are used
    pub undo_places : Sizes (length m) (length r) → g ≡ false → PlacesIn e.touched (length tb)
    undo_places z v =
        let top = (undo_fits z t).filled in
        let room = (enough_before (length tb) s.objects e.objects (sym dg ∙ v)).room in
        rw de (newest_inside s.objects (length tb) (used_in s.used j) (rw de at top) room)

    pub undo_goes : (number : ℕ) (n : ℕ) (m' r' tb' : List ℕ) → g ≡ false → n ≡ entry_length e → Restored e.touched (saved_in e (used_in s.used j)) m r tb m' r' tb' → Leaves (undo_on (world_of number s m r tb j)) j (outcome (Ok (answer.Step false)) (session e.unit e.objects (s.used - n) s.journal)) m' r' tb' j
    unfolding undo_on undo_by entry_wrong undone without
    undo_goes number n m' r' tb' v dn b =
        let less : used_in (s.used - n) (used_in s.used j) ≡ used_in (s.used - n) j = used_less (s.used - n) s.used j (omega arith) in
        rw (← de, ← df, ← dw, not-false (f && not w) t, ← dg, v, ← dn)
        (record { answer = refl; world = rw (b.memory, b.reel, b.table, less); unless_step = λ t. refl })

-- the step back's own refusals, 6 and the 8 of a used journal too short for an entry
module _ (number : ℕ) (s : Session) (m r tb j : List ℕ) (e : checked s (length m) (length r) (length j) ≡ Ok tt) where
  pub back_none : s.used ≡ 0 → Leaves (back_on (world_of number s m r tb j) (length j)) j (outcome (Err refusal.Empty) s) m r tb j
  unfolding back_on
  back_none h = guarded_goes number s m r tb j _ _ m r tb j e (rw (eq-eqb s.used 0 h) (left_alone number s m r tb j (Err refusal.Empty) (outcome (Err refusal.Empty) s) refl refl))

  pub back_short : (s.used ≡ 0 → ⊥) → s.used < entry_bare → Leaves (back_on (world_of number s m r tb j) (length j)) j (outcome (Err refusal.Entry) s) m r tb j
  unfolding back_on
  back_short g h = guarded_goes number s m r tb j _ _ m r tb j e (rw (ne_eqb s.used 0 g, lt-ltb s.used entry_bare h) (left_alone number s m r tb j (Err refusal.Entry) (outcome (Err refusal.Entry) s) refl refl))

  pub back_goes : (o : Outcome) (m' r' tb' j' : List ℕ) → (s.used ≡ 0 → ⊥) → entry_bare ≤ s.used → Leaves (undo_on (world_of number s m r tb j)) j o m' r' tb' j' → Leaves (back_on (world_of number s m r tb j) (length j)) j o m' r' tb' j'
  unfolding back_on
  back_goes o m' r' tb' j' g h k = guarded_goes number s m r tb j _ o m' r' tb' j' e (rw (ne_eqb s.used 0 g, le-ltb s.used entry_bare h) k)
