-- A step back from any world, made up or not: it is refused and changes nothing, or the world after it passes refusals 1 to 4 again, so that the
-- next step back can be refused with 6, 8 or 11 alone.
use mathlib.Core.Path.{◌≡◌, refl, subst, ◌∙◌}
use mathlib.Core.Bool.{Bool, true, false, ◌&&◌, not, and-eq-true_iff}
use mathlib.Core.List.{List}
use Prim.Native.Nat.{ℕ, ◌≤◌}
use native.Mathlib.Omega.{arith}
use borrow.Author.Tests.{not-false, not-true}
use lib.Dec.{eqb, ltb}
use lib.ListN.{length}
use Rattle.std.specs.Prelude.{Ok}
use Rattle.lists.proofs.Cases.{pick_told}
use Rattle.lists.proofs.Placed.{length_placed}
use Rattle.state.specs.Checks.{state_wrong}
use Rattle.state.proofs.Legal.{legal}
use Rattle.state.specs.Refusals.{block_of, fault_of, refusal_number}
use Rattle.state.proofs.Behind.{behind_told, few_block, few_fault}
use Rattle.state.specs.declared.refusal.Refusal.{Refusal}
use Rattle.state.specs.declared.refusal.Refusal.TheVariants as refusal
use Rattle.state.proofs.Tests.{either}
use Rattle.commands.specs.declared.plans.Done.TheVariants as answer
use Rattle.touched.specs.Touches.{memory_back, reel_back}
use Rattle.touched.specs.declared.Touched.{Touched}
use Rattle.entries.specs.Entries.{entry_bare, entry_fits, newest_entry, saved_in}
use Rattle.entries.specs.declared.Entry.{Entry}
use Rattle.entries.proofs.Fitting.{Fitting, fitting}
use Rattle.worlds.specs.Worlds.{Answered, World, answered, session_of}
use Rattle.worlds.specs.Passes.{Passed}
use Rattle.worlds.specs.Refusals.{checked}
use Rattle.worlds.specs.Calls.{back_on, entry_wrong, guarded, no_place_back, refused_as, undo_by, undo_on, undone, without}
use Rattle.worlds.proofs.Passing.{let_pass, passed, sizes}
use Rattle.sessions.specs.Calling.{Left, step_kind}
use Rattle.sessions.specs.Session.{stepped}
use Rattle.sessions.proofs.Advances.{Few, checked_few}
use Rattle.sessions.proofs.Taken.{guarded_left}

pub length_memory_back : (t : Touched) (b m : List ℕ) → length (memory_back t b m) ≡ length m
unfolding memory_back
length_memory_back t b m = length_placed _ _ _ _ ∙ length_placed _ _ _ _

pub length_reel_back : (t : Touched) (b r : List ℕ) → length (reel_back t b r) ≡ length r
unfolding reel_back
length_reel_back t b r = length_placed _ _ _ _

-- the newest entry, whatever bytes stand there
abbrev pub newest : World → Entry
newest w = newest_entry w.core.objects w.ledger.bytes

-- a step back that took nothing back left the world as it was
pub back_left : (n : ℕ) (w : World) → Left w (back_on w n)
unfolding back_on undo_on undo_by step_kind
back_left n w =
    guarded_left n w _
    (either (Left w) (eqb w.ledger.used 0) (refused_as refusal.Empty w) _ (λ g. refl)
    (either (Left w) (ltb w.ledger.used entry_bare) (refused_as refusal.Entry w) _ (λ g. refl)
    (either (Left w) (entry_wrong w (newest w)) (refused_as refusal.Entry w) _ (λ g. refl)
    (either (Left w) (no_place_back w.core (newest w)) (refused_as refusal.Table w) _ (λ g. refl) (λ g. absurd (g refl))))))

-- the world with the entry e brought back, if e is right
abbrev pub back_to : World → Entry → World
back_to w e = record { number = w.number; core = undone e (saved_in e w.ledger.bytes) w.core; ledger = without w.ledger e }

module _ (n : ℕ) (w : World) (e : Entry) (p : Passed (session_of w) (length w.core.memory) (length w.core.reel) n) (right : entry_wrong w e ≡ false) where
  told : (entry_fits e w.ledger.used w.core.unit.lengths (length w.core.memory) (length w.core.reel) w.core.objects ≡ true) × (not (state_wrong e.unit) ≡ true)
  unfolding entry_wrong
  told =
      let fits : Bool = entry_fits e w.ledger.used w.core.unit.lengths (length w.core.memory) (length w.core.reel) w.core.objects in
      (and-eq-true_iff fits (not (state_wrong e.unit))).0 (not-false (fits && not (state_wrong e.unit)) right)

  fit : Fitting e w.ledger.used w.core.unit.lengths (length w.core.memory) (length w.core.reel) w.core.objects
  fit = fitting e w.ledger.used w.core.unit.lengths (length w.core.memory) (length w.core.reel) w.core.objects (sizes w n p) told.0

  pub back_passed : Passed (session_of (back_to w e)) (length (back_to w e).core.memory) (length (back_to w e).core.reel) n
  unfolding undone without
  back_passed =
      record {
        legal = legal e.unit (not-true (state_wrong e.unit) told.1);
        memory_is = rw (length_memory_back e.touched (saved_in e w.ledger.bytes) w.core.memory, fit.lengths) p.memory_is;
        reel_is = rw (length_reel_back e.touched (saved_in e w.ledger.bytes) w.core.reel, fit.lengths) p.reel_is;
        journal_is = p.journal_is;
        used = omega (arith, p.used);
        limit = p.limit;
      }

-- a step back was refused, by no block, and left the world, or brought an entry back that was right, and for which the table was large enough
pub data WentBack (n : ℕ) (w : World) : Answered → Type 0 where
  stayed_back : {k : Refusal} → block_of k ≡ 0 → fault_of k ≡ 0 → WentBack n w (refused_as k w)
  brought_back_lem : (e : Entry) → e ≡ newest w → Passed (session_of w) (length w.core.memory) (length w.core.reel) n → entry_wrong w e ≡ false → no_place_back w.core e ≡ false
      → WentBack n w (answered (Ok (answer.Step false)) (back_to w e))

pub went_back_as : (n : ℕ) (w : World) → WentBack n w (back_on w n)
unfolding back_on guarded undo_on undo_by block_of fault_of
went_back_as n w =
    behind_told (WentBack n w) (checked (session_of w) (length w.core.memory) (length w.core.reel) n) (λ r. refused_as r w) _
    (λ r t. let few : refusal_number r ≤ 4 = subst Few t (checked_few (session_of w) (length w.core.memory) (length w.core.reel) n) in stayed_back (few_block r few) (few_fault r few))
    (λ t. either (WentBack n w) (eqb w.ledger.used 0) (refused_as refusal.Empty w) _ (stayed_back refl refl)
    (either (WentBack n w) (ltb w.ledger.used entry_bare) (refused_as refusal.Entry w) _ (stayed_back refl refl)
    (pick_told (WentBack n w) (entry_wrong w (newest w)) (refused_as refusal.Entry w) _
    (λ v. stayed_back refl refl)
    (λ v. pick_told (WentBack n w) (no_place_back w.core (newest w)) (refused_as refusal.Table w) _
    (λ f. stayed_back refl refl)
    (λ f. brought_back_lem (newest w) refl (passed (session_of w) (length w.core.memory) (length w.core.reel) n t) v f)))))

checked_by : (n : ℕ) (w : World) (x : Answered) → WentBack n w x → step_kind x.answer ≡ stepped → checked (session_of x.world) (length x.world.core.memory) (length x.world.core.reel) n ≡ Ok tt
unfolding step_kind
checked_by n w x (stayed_back b f) k = absurd (let z : ◌≡◌ {A = ℕ} 0 1 = cc in omega arith)
checked_by n w x (brought_back_lem e d p v f) k = let_pass _ _ _ n (back_passed n w e p v)

-- "8 .. or it would restore a state that 1 refuses": after a step back that is done, refusals 1 to 4 let the next call pass
pub back_checked_lem : (n : ℕ) (w : World) → step_kind (back_on w n).answer ≡ stepped → checked (session_of (back_on w n).world) (length (back_on w n).world.core.memory) (length (back_on w n).world.core.reel) n ≡ Ok tt
back_checked_lem n w k = checked_by n w (back_on w n) (went_back_as n w) k
