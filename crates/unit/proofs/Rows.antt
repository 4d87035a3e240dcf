-- The table's places that a step fills: as many as the objects that it lays, at the end of the used part, and inside a table that is large enough.
use mathlib.Core.Path.{◌≡◌, refl, sym, ◌∙◌}
use mathlib.Core.Bool.{Bool, true, false, ◌||◌, true≢false}
use mathlib.Core.List.{List, ◌∷◌}
use Prim.Native.Nat.{ℕ, ◌+◌, ◌-◌, ◌*◌, ◌/◌, ◌≤◌}
use native.Mathlib.Nat.{min-le_left, min-le_right}
use native.Mathlib.Omega.{arith}
use borrow.Author.Tests.{eqb-true, ltb-false}
use lib.Dec.{eqb, ltb}
use lib.ListN.{length}
use lib.Seq.{sets}
use Rattle.lists.specs.Pick.{pick}
use Rattle.lists.proofs.Cases.{by_test}
use Rattle.tape.specs.Objects.{Object, gap, mark}
use Rattle.index.specs.Cutting.{cut_at, extended}
use Rattle.index.specs.Halving.{of_blocks}
use Rattle.index.specs.Table.{place_length, places_in, places_limit, places_row, table_from}
use Rattle.index.specs.declared.Cut.{Cut}
use Rattle.index.proofs.Halves.{halved_low}
use Rattle.index.proofs.Tables.{row_gap, row_none, row_one}
use Rattle.state.proofs.Tests.{neither}
use Rattle.motions.specs.declared.parts.Laid.{Laid}
use Rattle.motions.specs.declared.parts.ObjectKind.{ObjectKind}
use Rattle.motions.specs.declared.parts.ObjectKind.TheVariants as kind
use Rattle.storing.specs.Stored.{laid_object, laid_objects}
use Rattle.touched.specs.Touches.{PlacesIn, place_below}
use Rattle.unit.specs.Cores.{Core}
use Rattle.unit.specs.Steps.{Sound, Step, cut_for, cut_of, objects_after, table_after, too_small}
use Rattle.unit.specs.Touching.{laid_places, object_places}

-- a place for each object that is laid
module _ (m : List ℕ) (l : Laid) where
  places_object : (k : ObjectKind) → length (laid_object m l k) ≡ object_places k
  unfolding laid_object object_places
  places_object kind.Nothing = refl
  places_object kind.Mark = refl
  places_object kind.Gap = refl
  places_object kind.Record = refl

  places_first : (t : Bool) (os : List Object) (n : ℕ) → length os ≡ n → length (pick t (gap ∷ os) os) ≡ pick t (n + 1) n
  places_first true os n e = omega arith
  places_first false os n e = e

  pub places_laid : length (laid_objects m l) ≡ laid_places l
  unfolding laid_objects laid_places
  places_laid = places_first l.gap_first (laid_object m l l.object) (object_places l.object) (places_object l.object)

  -- the row that the code puts is these objects' table: a gap has one block and is no mark
  module _ (b k : ℕ) where
    row_object : (o : ObjectKind) → table_from b k (laid_object m l o) ≡ places_row b k (object_places o)
    unfolding laid_object object_places
    row_object kind.Nothing = row_none b k
    row_object kind.Mark = row_one b k mark
    row_object kind.Gap = row_one b k gap
    row_object kind.Record = row_one b k _

    row_behind : (o : ObjectKind) → table_from b k (gap ∷ laid_object m l o) ≡ places_row b k (object_places o + 1)
    unfolding laid_object object_places
    row_behind kind.Nothing = row_one b k gap
    row_behind kind.Mark = row_gap b k mark
    row_behind kind.Gap = row_gap b k gap
    row_behind kind.Record = row_gap b k _

    row_first : (t : Bool) (o : ObjectKind) → table_from b k (pick t (gap ∷ laid_object m l o) (laid_object m l o)) ≡ places_row b k (pick t (object_places o + 1) (object_places o))
    row_first true o = row_behind o
    row_first false o = row_object o

    pub row_laid : table_from b k (laid_objects m l) ≡ places_row b k (laid_places l)
    unfolding laid_objects laid_places
    row_laid = row_first l.gap_first l.object

-- what `fill_places` leaves is the table after the step
pub filled_table : (c : Core) (l : Laid) (tb' : List ℕ) → tb' ≡ sets c.table (place_length * (cut_of c l).place) (places_row l.at (cut_of c l).marks (laid_places l)) → tb' ≡ table_after c l
unfolding table_after extended
filled_table c l tb' e = e ∙ rw (row_laid c.memory l l.at (cut_of c l).marks)

-- where it cuts a table tb of n places, beside the reel s: inside, and the places filled are then the last
module _ (l : Laid) (tb : List ℕ) (n : ℕ) (s : List ℕ) where
  abbrev cut : Cut
  cut = cut_for l tb n s

  pub cut_low : cut.place ≤ n
  unfolding cut_for cut_at
  cut_low =
      by_test (eqb (laid_places l) 0)
      (λ t. rw t (omega arith))
      (λ t. rw t (halved_low tb of_blocks l.at n))

  pub cut_filled : cut.place ≡ place_below (objects_after l cut n) (laid_places l)
  unfolding cut_for objects_after
  cut_filled =
      by_test (eqb (laid_places l) 0)
      (λ t. rw t)
      (λ t. rw t (omega arith))

  pub cut_fewer : laid_places l ≤ objects_after l cut n
  unfolding objects_after
  cut_fewer =
      by_test (eqb (laid_places l) 0)
      (λ t. rw t (omega (arith, eqb-true (laid_places l) 0 t)))
      (λ t. rw t (omega arith))

-- a table of so many bytes has n places, and they can be counted in four bytes
pub record Enough (table n : ℕ) : Type 0 where
  pub room : place_length * n ≤ table
  pub few : n ≤ places_limit

pub enough : (table n : ℕ) → ltb (places_in table) n ≡ false → Enough table n
enough table n h =
    let l = ltb-false (places_in table) n h in
    record {
      room = omega (arith, min-le_left (table / place_length) places_limit);
      few = omega (arith, min-le_right (table / place_length) places_limit);
    }

module _ (table n n' : ℕ) (h : too_small table n n' ≡ false) where
  both : (ltb (places_in table) n ≡ false) × (ltb (places_in table) n' ≡ false)
  unfolding too_small
  both = neither (ltb (places_in table) n) (ltb (places_in table) n') h

  pub enough_before : Enough table n
  enough_before = enough table n both.0

  pub enough_after : Enough table n'
  enough_after = enough table n' both.1

  -- the step back asks the same
  pub enough_back : too_small table n' n ≡ false
  unfolding too_small
  enough_back = rw (both.1, both.0)

-- a table that is too small for the objects now is so whatever comes after
pub small_now : (table n n' : ℕ) → too_small table n n ≡ true → too_small table n n' ≡ true
unfolding too_small
small_now table n n' h = by_part (ltb (places_in table) n) (ltb (places_in table) n') h
  where
    by_part : (a b : Bool) → (a || a) ≡ true → (a || b) ≡ true
    by_part true b h = refl
    by_part false b h = absurd (true≢false (sym h))

-- the places that a step fills lie inside a table that is large enough
inside : (at f top table : ℕ) → at ≡ place_below top f → f ≤ top → place_length * top ≤ table → place_length * (at + f) ≤ table
inside at f top table e k h =
    by_test (eqb f 0)
    (λ t. let z : at ≡ 0 = rw t at e in omega (arith, eqb-true f 0 t))
    (λ t. let z : at ≡ top - f = rw t at e in omega arith)

pub places_inside : (c : Core) (x : Step) → Sound c x → too_small (length c.table) c.objects x.after.objects ≡ false → PlacesIn x.touched (length c.table)
places_inside c x s h = inside x.touched.place_at x.touched.places x.after.objects (length c.table) s.filled s.fewer (enough_after (length c.table) c.objects x.after.objects h).room
