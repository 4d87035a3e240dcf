-- The bytes of a record on the reel, and those of them that a Read moves.
use Rattle.std.specs.Prelude.{Bool, List, [], ◌++◌, ℕ, suc, ◌+◌, ◌-◌, ◌*◌, length, take, drop}
use Rattle.lists.specs.Pick.{pick}
use Rattle.lists.specs.Places.{placed}
use Rattle.tape.specs.Numbers.{block_bytes, data_bytes, head_bytes, pieces_of}

-- the data bytes of the m blocks from block p on
unfoldable pub data_below : List ℕ → ℕ → ℕ → List ℕ
data_below s p ℕ.zero = []
data_below s p (suc m) = data_below s p m ++ take data_bytes (drop (block_bytes * (p + m) + head_bytes) s)

-- the bytes of the record of n bytes at block p
unfoldable pub record_bytes : List ℕ → ℕ → ℕ → List ℕ
record_bytes s p n = take n (data_below s p (pieces_of n))

-- "a long one gives its last bytes" in reverse, its first ones forward; a short one gives all
unfoldable pub moved_bytes : Bool → ℕ → List ℕ → List ℕ
moved_bytes reverse count d = pick reverse (drop (length d - count) d) (take count d)

-- "Read reverse fills from the last buffer place down: a short record lies at the high end"
unfoldable pub moved_to : Bool → ℕ → ℕ → ℕ → ℕ
moved_to reverse pointer count n = pick reverse (pointer + (count - n)) pointer

-- memory m after a Read of `count` bytes at `pointer` met the record d
unfoldable pub read_into : Bool → Bool → List ℕ → ℕ → ℕ → List ℕ → List ℕ
read_into reverse swb m pointer count d =
    placed swb m (moved_to reverse pointer count (length d)) (moved_bytes reverse count d)
