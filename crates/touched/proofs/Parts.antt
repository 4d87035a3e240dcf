-- What was saved, part by part.
use mathlib.Core.Path.{◌≡◌, sym, ap, ◌∙◌}
use mathlib.Core.Bool.{false}
use mathlib.Core.List.{List, ◌++◌}
use Prim.Native.Nat.{ℕ, ◌+◌, ◌*◌}
use native.Mathlib.Omega.{arith}
use lib.ListN.{drop, length, length-append}
use lib.Seq.{drop_at, drop-drop, take_at}
use Rattle.lists.specs.Places.{gathered}
use Rattle.lists.proofs.Placed.{length_gathered}
use Rattle.tape.specs.Numbers.{block_bytes}
use Rattle.index.specs.Table.{place_length}
use Rattle.touched.specs.declared.Touched.{Touched}
use Rattle.touched.specs.Touches.{saved_blocks, saved_bytes, saved_data, saved_length, saved_message, saved_places}

module _ (t : Touched) (m r tb : List ℕ) where
  abbrev pub old_data : List ℕ
  old_data = gathered t.swb m t.data_at t.data_length

  abbrev pub old_message : List ℕ
  old_message = gathered false m t.message_at t.message_length

  abbrev pub old_blocks : List ℕ
  old_blocks = gathered false r (block_bytes * t.reel_at) (block_bytes * t.reel_blocks)

  abbrev pub old_places : List ℕ
  old_places = gathered false tb (place_length * t.place_at) (place_length * t.places)

  long_data : length old_data ≡ t.data_length
  long_data = length_gathered t.swb m t.data_at t.data_length

  long_message : length old_message ≡ t.message_length
  long_message = length_gathered false m t.message_at t.message_length

  long_blocks : length old_blocks ≡ block_bytes * t.reel_blocks
  long_blocks = length_gathered false r (block_bytes * t.reel_at) (block_bytes * t.reel_blocks)

  pub length_saved : length (saved_bytes t m r tb) ≡ saved_length t
  unfolding saved_bytes
  length_saved = rw (length-append, length-append, length-append, length_gathered, length_gathered, length_gathered, length_gathered) (omega arith)

  pub saved_data_lem : saved_data t (saved_bytes t m r tb) ≡ old_data
  unfolding saved_bytes
  saved_data_lem = take_at old_data (old_message ++ (old_blocks ++ old_places)) t.data_length long_data

  after_data : drop t.data_length (saved_bytes t m r tb) ≡ old_message ++ (old_blocks ++ old_places)
  unfolding saved_bytes
  after_data = drop_at old_data (old_message ++ (old_blocks ++ old_places)) t.data_length long_data

  after_message : drop (t.data_length + t.message_length) (saved_bytes t m r tb) ≡ old_blocks ++ old_places
  after_message =
      sym (drop-drop t.message_length t.data_length (saved_bytes t m r tb))
      ∙ ap (drop t.message_length) after_data
      ∙ drop_at old_message (old_blocks ++ old_places) t.message_length long_message

  pub saved_message_lem : saved_message t (saved_bytes t m r tb) ≡ old_message
  saved_message_lem = rw after_data (take_at old_message (old_blocks ++ old_places) t.message_length long_message)

  pub saved_blocks_lem : saved_blocks t (saved_bytes t m r tb) ≡ old_blocks
  saved_blocks_lem = rw after_message (take_at old_blocks old_places (block_bytes * t.reel_blocks) long_blocks)

  pub saved_places_lem : saved_places t (saved_bytes t m r tb) ≡ old_places
  saved_places_lem =
      sym (drop-drop (block_bytes * t.reel_blocks) (t.data_length + t.message_length) (saved_bytes t m r tb))
      ∙ ap (drop (block_bytes * t.reel_blocks)) after_message
      ∙ drop_at old_blocks old_places (block_bytes * t.reel_blocks) long_blocks
