-- Carrying out a plan changes nothing but what it touches, and that lies inside memory and reel; a host store likewise.
use mathlib.Core.Path.{◌≡◌, refl, sym}
use mathlib.Core.Bool.{Bool, true, false, true≢false}
use mathlib.Core.List.{List}
use mathlib.Core.Logic.{inl, inr}
use Prim.Native.Nat.{ℕ, ◌+◌, ◌-◌, ◌*◌, ◌%◌, ◌≤◌, ◌<◌}
use native.Mathlib.Omega.{arith}
use borrow.Author.Tests.{ltb-false, ltb-true}
use lib.Dec.{ltb}
use lib.ListN.{get_or, length}
use lib.Seq.{length-sets, sets}
use Rattle.lists.specs.Pick.{pick}
use Rattle.lists.proofs.Cases.{by_test}
use Rattle.lists.proofs.Placed.{placed_other, placed_plain}
use Rattle.tape.specs.Numbers.{block_bytes}
use Rattle.index.specs.Cutting.{extended}
use Rattle.index.specs.Table.{place_length}
use Rattle.index.specs.declared.Cut.{Cut}
use Rattle.index.proofs.Cuts.{extended_other, length_extended}
use Rattle.signals.specs.Message.{message_bytes}
use Rattle.state.specs.declared.Unit.{Unit}
use Rattle.motions.specs.Parts.{laid_blocks, object_blocks}
use Rattle.commands.specs.Ends.{still}
use Rattle.commands.specs.Answers.{Answer}
use Rattle.commands.specs.declared.plans.Plan.{Plan}
use Rattle.storing.specs.Stored.{Storable, laid_objects, memory_after, reel_after}
use Rattle.storing.proofs.DataPlaces.{data_inside}
use Rattle.storing.proofs.Lengths.{length_memory, length_reel}
use Rattle.storing.proofs.Staying.{memory_kept, reel_kept_above, reel_kept_below}
use Rattle.touched.specs.Touches.{OffRun, Only, Sizes, TouchedIn, run_of}
use Rattle.unit.specs.Touching.{host_touched, laid_places, moved_place, touched_by}
use Rattle.unit.proofs.Rows.{places_laid}

-- no place of the message's run, where one goes out
off_message : (b : Bool) (a n j : ℕ) → OffRun false (pick b a 0) (pick b n 0) j → b ≡ true → (i : ℕ) → i < n → j ≡ a + i → ⊥
off_message true a n j f t = f
off_message false a n j f t = absurd (true≢false (sym t))

-- below the run or above it
off_blocks : (P : Type 0) (a n j : ℕ) → OffRun false a n j → (j < a → P) → (a + n ≤ j → P) → P
off_blocks P a n j f below above =
    by_test (ltb j a)
    (λ t. below (ltb-true j a t))
    (λ t. by_test (ltb j (a + n))
    (λ v. absurd (f (j - a) (omega (arith, ltb-false j a t, ltb-true j (a + n) v)) (omega (arith, ltb-false j a t))))
    (λ v. above (ltb-false j (a + n) v)))

-- the message's place is 0 where none goes out
message_in : (t : Bool) (a n : ℕ) → (t ≡ true → a + message_bytes ≤ n) → pick t a 0 + pick t message_bytes 0 ≤ n
message_in true a n f = f refl
message_in false a n f = omega arith

module _ (p : Plan) (m s : List ℕ) (fits : Storable p (length m) (length s)) where
  -- with a table that it cuts at c
  pub plan_only : (tb : List ℕ) (c : Cut) → length p.message ≡ 7 → Only (touched_by p c.place) m s tb (memory_after p m s) (reel_after p m s) (extended tb c p.laid.at (laid_objects m p.laid))
  unfolding touched_by moved_place reel_after
  plan_only tb c seven =
      let l = p.laid in
      let os = laid_objects m l in
      record {
        long_memory = length_memory p m s;
        long_reel = length_reel p m s;
        long_table = length_extended tb c l.at os;
        memory = λ j f g. memory_kept p m s fits seven j f (off_message p.sends p.unit.characteristics.address message_bytes j g);
        reel =
            λ j f. off_blocks (get_or (reel_after p m s) j 0 ≡ get_or s j 0) (block_bytes * l.at) (block_bytes * laid_blocks l) j f
            (λ h. reel_kept_below m s l j h)
            (λ h. reel_kept_above m s l j (omega (arith, h)));
        table =
            λ j f. off_blocks (get_or (extended tb c l.at os) j 0 ≡ get_or tb j 0) (place_length * c.place) (place_length * laid_places l) j f
            (λ h. extended_other tb c l.at os j (inl h))
            (λ h. extended_other tb c l.at os j (inr (omega (arith, h, places_laid m l))));
      }

  pub plan_in : (k : ℕ) → Sizes (length m) (length s) → TouchedIn (touched_by p k) (length m) (length s)
  unfolding touched_by moved_place
  plan_in k z =
      record {
        in_memory = data_inside s p.moved m fits.moved;
        message_in_memory = message_in p.sends p.unit.characteristics.address (length m) fits.message;
        in_reel = fits.laid.room;
        sizes = z;
      }

-- a plan that stores nothing
pub still_storable : (u : Unit) (a : Answer) (memory reel : ℕ) → memory % 2 ≡ 0 → Storable (still u a) memory reel
unfolding still laid_blocks object_blocks
still_storable u a memory reel h =
    record {
      laid = record { room = omega arith; source = omega arith; even = h };
      moved = record { room = omega arith; target = omega arith; even = h };
      message = λ t. absurd (true≢false (sym t));
    }

-- a host store
module _ (m s : List ℕ) (place : ℕ) (bytes : List ℕ) where
  pub host_only : (tb : List ℕ) → Only (host_touched place (length bytes)) m s tb (sets m place bytes) s tb
  unfolding host_touched
  host_only tb =
      record {
        long_memory = length-sets m place bytes;
        long_reel = refl;
        long_table = refl;
        memory = λ j f g. rw (← placed_plain m place bytes) (placed_other false m place j bytes f);
        reel = λ j f. refl;
        table = λ j f. refl;
      }

  pub host_in : Sizes (length m) (length s) → place + length bytes ≤ length m → TouchedIn (host_touched place (length bytes)) (length m) (length s)
  unfolding host_touched
  host_in z h = record { in_memory = h; message_in_memory = omega arith; in_reel = omega arith; sizes = z }

-- what a host store touches is a run of memory
pub host_run : (place n : ℕ) → host_touched place n ≡ run_of place n
unfolding host_touched
host_run place n = refl
