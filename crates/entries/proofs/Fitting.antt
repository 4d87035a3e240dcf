-- An entry that was read and fits: it lies in the used journal, its places inside memory and reel, its lengths are the
-- mount's, and it filled no more than the table's used places.
use mathlib.Core.Path.{◌≡◌, refl, sym, ◌∙◌}
use mathlib.Core.Bool.{Bool, true, false, ◌&&◌, and-eq-true_iff}
use Prim.Native.Nat.{ℕ, ◌+◌, ◌≤◌}
use borrow.Author.Tests.{eq-eqb, eqb-true, le-leb, leb-true}
use lib.Dec.{eqb, leb}
use Rattle.state.specs.declared.Lengths.{Lengths}
use Rattle.touched.specs.Touches.{Sizes, TouchedIn, saved_length, touched_fits}
use Rattle.touched.proofs.Fits.{fits_in, in_fits}
use Rattle.entries.specs.declared.Entry.{Entry}
use Rattle.entries.specs.Entries.{entry_bare, entry_fits, entry_length, same_lengths}

same_lengths_lem : (l k : Lengths) → same_lengths l k ≡ true → l ≡ k
same_lengths_lem l k h =
    let p = (and-eq-true_iff (eqb l.memory k.memory) (eqb l.blocks k.blocks)).0 h in
    rw (eqb-true l.memory k.memory p.0, eqb-true l.blocks k.blocks p.1)

lengths_same : (l k : Lengths) → l ≡ k → same_lengths l k ≡ true
lengths_same l k h = rw (h, eq-eqb k.memory k.memory refl, eq-eqb k.blocks k.blocks refl)

module _ (e : Entry) (used : ℕ) (mounted : Lengths) (memory reel top : ℕ) where
  abbrev fill : Bool
  fill = leb e.touched.places top

  pub record Fitting : Type 0 where
    pub inside : entry_length e ≤ used
    pub places : TouchedIn e.touched memory reel
    pub lengths : e.unit.lengths ≡ mounted
    pub filled : e.touched.places ≤ top

  pub fitting : Sizes memory reel → entry_fits e used mounted memory reel top ≡ true → Fitting
  unfolding entry_fits
  fitting z h =
      let p = (and-eq-true_iff (same_lengths e.unit.lengths mounted) ((touched_fits e.touched memory reel && fill) && leb (entry_length e) used)).0 h in
      let q = (and-eq-true_iff (touched_fits e.touched memory reel && fill) (leb (entry_length e) used)).0 p.1 in
      let t = (and-eq-true_iff (touched_fits e.touched memory reel) fill).0 q.0 in
      record {
        inside = leb-true (entry_length e) used q.1;
        places = fits_in e.touched memory reel z t.0;
        lengths = same_lengths_lem e.unit.lengths mounted p.0;
        filled = leb-true e.touched.places top t.1;
      }

  pub fits : Fitting → entry_fits e used mounted memory reel top ≡ true
  unfolding entry_fits
  fits f =
      rw (
        lengths_same e.unit.lengths mounted f.lengths,
        in_fits e.touched memory reel f.places,
        le-leb e.touched.places top f.filled,
        le-leb (entry_length e) used f.inside,
      )

  -- the two ways out of the code's test, whose parts are x, y and the count of places
  module _ (x y : Bool) (dx : x ≡ same_lengths e.unit.lengths mounted) (dy : y ≡ touched_fits e.touched memory reel) where
    abbrev right : Bool
    right = x && (y && fill)

    passed : right ≡ true → (y && fill) ≡ true
    passed t = ((and-eq-true_iff x (y && fill)).0 t).1

    pub unfit : right ≡ false → false ≡ entry_fits e used mounted memory reel top
    unfolding entry_fits
    unfit t = sym (rw (← dx, ← dy) (by_parts x (y && fill) t))
      where
        by_parts : (a b : Bool) → (a && b) ≡ false → (a && (b && leb (entry_length e) used)) ≡ false
        by_parts true b h = rw h
        by_parts false b h = refl

    pub places_in_lem : Sizes memory reel → right ≡ true → TouchedIn e.touched memory reel
    places_in_lem z t = fits_in e.touched memory reel z (sym dy ∙ ((and-eq-true_iff y fill).0 (passed t)).0)

    pub fit_by : (s : ℕ) → right ≡ true → s ≡ saved_length e.touched → leb (entry_bare + s) used ≡ entry_fits e used mounted memory reel top
    unfolding entry_fits entry_length
    fit_by s t k = rw (← dx, ← dy, ((and-eq-true_iff x (y && fill)).0 t).0, passed t, k)
