-- An entry comes back from its numbers, whole: every field of the state has its place among them, so none can be forgotten.
use mathlib.Core.Path.{◌≡◌, refl}
use mathlib.Core.Bool.{Bool, true, false, not}
use mathlib.Core.List.{List}
use Prim.Native.Nat.{ℕ, ◌%◌, ◌<◌}
use native.Mathlib.Omega.{arith}
use lib.Dec.{eqb}
use lib.ListN.{length}
use Rattle.lists.specs.Fours.{number_limit}
use Rattle.touched.specs.Touches.{place_below}
use Rattle.entries.specs.declared.Entry.{Entry}
use Rattle.entries.specs.Bytes.{head_count}
use Rattle.entries.specs.Numbers.{Small, bit_of, entry_of, numbers_of, state_numbers, touched_of, unit_in}

pub length_numbers : (e : Entry) → length (numbers_of e) ≡ head_count
unfolding numbers_of state_numbers
length_numbers e = refl

-- a number of four bytes, and a bit
pub low : (x : ℕ) → x < number_limit → x % number_limit ≡ x
low x h = omega arith

pub told : (b : Bool) → not (eqb (bit_of b) 0) ≡ b
told true = refl
told false = refl

-- the places filled are not among the numbers: they end at the table's used part after the step, which is `top`
pub entry_back : (e : Entry) (top : ℕ) → Small e → e.touched.place_at ≡ place_below top e.touched.places → entry_of (numbers_of e) top ≡ e
unfolding numbers_of state_numbers entry_of unit_in touched_of
entry_back e top h at =
    let r = e.unit.registers in
    let p = e.unit.panel in
    let a = e.unit.attention in
    let k = e.unit.characteristics in
    rw (
      ← at,
      low _ h.position,
      low _ h.end,
      low _ h.pointer,
      low _ h.class,
      told r.rmr,
      told r.nxm,
      told r.nba,
      told r.ssr,
      told p.online,
      told p.locked,
      told p.vck,
      told a.unit_owns,
      told a.pending,
      told a.release_ie,
      told k.eai,
      told k.ess,
      told k.enb,
      low _ h.memory,
      low _ h.blocks,
      low _ h.data_at_fits,
      low _ h.data_length_fits,
      told e.touched.swb,
      low _ h.message_at_fits,
      low _ h.message_length_fits,
      low _ h.reel_at_fits,
      low _ h.reel_blocks_fits,
      low _ h.objects,
      low _ h.transport,
    )

pub entry_places : (n : List ℕ) (top : ℕ) → (entry_of n top).touched.place_at ≡ place_below top (entry_of n top).touched.places
unfolding entry_of touched_of
entry_places n top = refl
