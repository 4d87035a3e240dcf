-- The data that a Read moves: how many bytes, to which places, what they leave as it was.
use mathlib.Core.Path.{◌≡◌}
use mathlib.Core.Bool.{Bool, true, false}
use mathlib.Core.List.{List}
use Prim.Native.Nat.{ℕ, ◌+◌, ◌≤◌, min}
use native.Mathlib.Omega.{arith}
use lib.ListN.{length, get_or, length-drop, length-take}
use Rattle.lists.specs.Places.{placed}
use Rattle.lists.proofs.Placed.{placed_other}
use Rattle.tape.specs.Bytes.{moved_bytes, moved_to, read_into, record_bytes}
use Rattle.tape.proofs.Recorded.{record_length}
use Rattle.motions.specs.Parts.{moved_length}
use Rattle.motions.specs.declared.parts.Moved.{Moved}
use Rattle.storing.specs.Outside.{OffData, data_to}
use Rattle.storing.specs.Stored.{MovedFits, moved_on}

-- the data bytes
abbrev pub data_from : List ℕ → Moved → List ℕ
data_from s x = moved_bytes x.reverse x.count (record_bytes s x.first x.length)

-- how many bytes of a record are moved, and that the buffer holds them, either way
length_chosen : (reverse : Bool) (count n : ℕ) (d : List ℕ) → length d ≡ n → length (moved_bytes reverse count d) ≡ min n count
unfolding moved_bytes
length_chosen true count n d e = rw length-drop (omega arith)
length_chosen false count n d e = rw length-take (omega arith)

chosen_inside : (reverse : Bool) (pointer count n room : ℕ) → pointer + count ≤ room → moved_to reverse pointer count n + min n count ≤ room
unfolding moved_to
chosen_inside true pointer count n room h = omega arith
chosen_inside false pointer count n room h = omega arith

module _ (s : List ℕ) (x : Moved) (m : List ℕ) (fits : MovedFits x (length m) (length s)) where
  record_whole : length (record_bytes s x.first x.length) ≡ x.length
  record_whole = record_length s x.first x.length fits.room

  pub moved_places : moved_on s x m ≡ placed x.swb m (data_to x) (data_from s x)
  unfolding moved_on read_into
  moved_places = rw record_whole

  pub length_data : length (data_from s x) ≡ moved_length x
  unfolding moved_length
  length_data = length_chosen x.reverse x.count x.length (record_bytes s x.first x.length) record_whole

  pub data_inside : data_to x + moved_length x ≤ length m
  unfolding moved_length
  data_inside = chosen_inside x.reverse x.pointer x.count x.length (length m) fits.target

  pub data_kept : (j : ℕ) → OffData x j → get_or (moved_on s x m) j 0 ≡ get_or m j 0
  data_kept j f = rw moved_places (placed_other x.swb m (data_to x) j (data_from s x) (λ i h. f i (omega (arith, length_data))))
