-- What differs from m, r and tb at the places touched alone is m, r and tb again with the saved bytes put back: why a step is undone by its
-- entry, whatever the step was.
use mathlib.Core.Path.{◌≡◌, ◌∙◌}
use mathlib.Core.Bool.{false}
use mathlib.Core.List.{List}
use Prim.Native.Nat.{ℕ, ◌*◌, ◌<◌}
use lib.ListN.{get_or, length}
use Rattle.lists.specs.Places.{placed}
use Rattle.lists.proofs.Back.{byte_back, same_back}
use Rattle.lists.proofs.Placed.{length_placed}
use Rattle.tape.specs.Numbers.{block_bytes}
use Rattle.index.specs.Table.{place_length}
use Rattle.touched.specs.declared.Touched.{Touched}
use Rattle.touched.specs.Touches.{OffRun, Only, memory_back, reel_back, saved_bytes, table_back}
use Rattle.touched.proofs.Parts.{old_message, saved_blocks_lem, saved_data_lem, saved_message_lem, saved_places_lem}

module _ (t : Touched) (m r tb m' r' tb' : List ℕ) (o : Only t m r tb m' r' tb') where
  -- with the message's bytes back, memory is as it was off the data
  abbrev unsent : List ℕ
  unsent = placed false m' t.message_at (old_message t m r tb)

  long_unsent : length unsent ≡ length m
  long_unsent = length_placed false m' t.message_at (old_message t m r tb) ∙ o.long_memory

  unsent_same : (j : ℕ) → j < length m → OffRun t.swb t.data_at t.data_length j → get_or unsent j 0 ≡ get_or m j 0
  unsent_same j h f = byte_back false m m' t.message_at t.message_length j o.long_memory h (o.memory j f)

  pub memory_put_back : memory_back t (saved_bytes t m r tb) m' ≡ m
  unfolding memory_back
  memory_put_back =
      rw (saved_message_lem t m r tb, saved_data_lem t m r tb)
      (same_back t.swb m unsent t.data_at t.data_length long_unsent unsent_same)

  pub reel_put_back : reel_back t (saved_bytes t m r tb) r' ≡ r
  unfolding reel_back
  reel_put_back =
      rw (saved_blocks_lem t m r tb)
      (same_back false r r' (block_bytes * t.reel_at) (block_bytes * t.reel_blocks) o.long_reel (λ j h f. o.reel j f))

  pub table_put_back : table_back t (saved_bytes t m r tb) tb' ≡ tb
  unfolding table_back
  table_put_back =
      rw (saved_places_lem t m r tb)
      (same_back false tb tb' (place_length * t.place_at) (place_length * t.places) o.long_table (λ j h f. o.table j f))
