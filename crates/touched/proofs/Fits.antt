-- Places that were tested lie inside memory and reel.
use mathlib.Core.Path.{◌≡◌}
use mathlib.Core.Bool.{Bool, true, ◌&&◌, and-eq-true_iff}
use Prim.Native.Nat.{ℕ, ◌+◌, ◌*◌, ◌/◌, ◌≤◌}
use native.Mathlib.Omega.{arith}
use borrow.Author.Tests.{le-leb, leb-true}
use lib.Dec.{eqb, leb}
use Rattle.lists.proofs.Cases.{by_test}
use Rattle.tape.specs.Numbers.{block_bytes}
use Rattle.index.specs.Table.{place_length}
use Rattle.touched.specs.declared.Touched.{Touched}
use Rattle.touched.specs.Touches.{PlacesIn, Sizes, TouchedIn, place_below, touched_fits}

-- places that end below the place `top` lie below it, and so inside a table that has so many
pub places_below : (top f : ℕ) → f ≤ top → place_below top f + f ≤ top
places_below top f h =
    by_test (eqb f 0)
    (λ t. rw t (omega arith))
    (λ t. rw t (omega arith))

pub places_inside : (t : Touched) (top table : ℕ) → t.place_at ≡ place_below top t.places → t.places ≤ top → place_length * top ≤ table → PlacesIn t table
places_inside t top table e h k = rw e (omega (arith, places_below top t.places h))

module _ (t : Touched) (memory reel : ℕ) where
  abbrev data_run : Bool
  data_run = leb (t.data_at + t.data_length) memory

  abbrev message_run : Bool
  message_run = leb (t.message_at + t.message_length) memory

  abbrev blocks_run : Bool
  blocks_run = leb (t.reel_at + t.reel_blocks) (reel / block_bytes)

  pub fits_in : Sizes memory reel → touched_fits t memory reel ≡ true → TouchedIn t memory reel
  unfolding touched_fits
  fits_in z h =
      let p = (and-eq-true_iff data_run (message_run && blocks_run)).0 h in
      let q = (and-eq-true_iff message_run blocks_run).0 p.1 in
      let blocks = leb-true (t.reel_at + t.reel_blocks) (reel / block_bytes) q.1 in
      record {
        in_memory = leb-true (t.data_at + t.data_length) memory p.0;
        message_in_memory = leb-true (t.message_at + t.message_length) memory q.0;
        in_reel = omega (arith, blocks);
        sizes = z;
      }

  pub in_fits : TouchedIn t memory reel → touched_fits t memory reel ≡ true
  unfolding touched_fits
  in_fits h =
      rw (
        le-leb (t.data_at + t.data_length) memory h.in_memory,
        le-leb (t.message_at + t.message_length) memory h.message_in_memory,
        le-leb (t.reel_at + t.reel_blocks) (reel / block_bytes) (omega (arith, h.in_reel)),
      )
