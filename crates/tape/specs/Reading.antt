-- What one block is read as. Damaged is every block that is none of the three forms (DECISIONS, damage), and it is told what is wrong with it:
-- "The block reader shall tell kind, length, index, padding and check apart, first in that order" (02, [4]).
use Rattle.std.specs.Prelude.{Bool, true, ◌&&◌, List, [], ◌∷◌, ℕ, ◌+◌, ◌-◌, ◌*◌, ◌/◌, min, eqb, leb, ltb, length, take, drop, Result, Ok, Err}
use Rattle.lists.specs.Pick.{pick}
use Rattle.lists.specs.Words.{word_at}
use Rattle.tape.specs.Numbers.{block_bytes, data_bytes, head_bytes, pieces_of, record_limit, summed_bytes}
use Rattle.tape.specs.Layout.{check_of, gap_kind, mark_kind, piece_kind}
use Rattle.tape.specs.declared.BlockFault.{BlockFault}
use Rattle.tape.specs.declared.BlockFault.TheVariants as fault
use Rattle.tape.specs.declared.Block.{Block}
use Rattle.tape.specs.declared.Block.TheVariants as block

-- "Kinds: 1 record piece, 2 tape mark, 3 erased gap."
abbrev pub kind_right : ℕ → Bool
kind_right k = leb piece_kind k && leb k gap_kind

-- a record's indices run from 0; marks and gaps have 0 there
abbrev pub index_right : ℕ → ℕ → ℕ → Bool
index_right k n i = pick (eqb k piece_kind) (ltb i (pieces_of n)) (eqb i 0)

-- the data bytes that piece i of n bytes uses; marks and gaps use none
abbrev pub used_of : ℕ → ℕ → ℕ → ℕ
used_of k n i = pick (eqb k piece_kind) (min data_bytes (n - data_bytes * i)) 0

unfoldable pub zeros : List ℕ → Bool
zeros [] = true
zeros (a ∷ r) = eqb a 0 && zeros r

-- "unused data bytes are 0"
unfoldable pub padding_right : List ℕ → ℕ → Bool
padding_right b used = zeros (drop (head_bytes + used) (take summed_bytes b))

-- "a last word: the sum of the 255 words before it, modulo 65,535"
unfoldable pub check_right : List ℕ → Bool
check_right b = eqb (word_at b summed_bytes) (check_of (take summed_bytes b))

-- what a block with these three words is, if all of it is right
abbrev pub kind_of : ℕ → ℕ → ℕ → Block
kind_of k n i = pick (eqb k piece_kind) (block.Piece n i) (pick (eqb k mark_kind) block.Mark block.Gap)

-- one of the five: where it is wrong the block is damaged for that, else the next is looked at
abbrev pub or_damaged : BlockFault → Bool → Result Block BlockFault → Result Block BlockFault
or_damaged f right next = pick right next (Err f)

-- block k of the reel s
abbrev pub block_at : List ℕ → ℕ → List ℕ
block_at s k = take block_bytes (drop (block_bytes * k) s)

-- under any record limit
module _ (limit : ℕ) where
  -- a record has 1 to `limit` bytes; marks and gaps have 0 there
  abbrev pub length_right_under : ℕ → ℕ → Bool
  length_right_under k n = pick (eqb k piece_kind) (leb 1 n && leb n limit) (eqb n 0)

  unfoldable pub class_by_under : List ℕ → ℕ → ℕ → ℕ → Result Block BlockFault
  class_by_under b k n i =
      or_damaged fault.Kind (kind_right k)
      (or_damaged fault.Length (length_right_under k n)
      (or_damaged fault.Index (index_right k n i)
      (or_damaged fault.Padding (padding_right b (used_of k n i))
      (or_damaged fault.Check (check_right b) (Ok (kind_of k n i))))))

  unfoldable pub class_of_under : List ℕ → Result Block BlockFault
  class_of_under b = class_by_under b (word_at b 0) (word_at b 2) (word_at b 4)

  -- a block that the slice does not hold whole has no place there: every number is some answer
  unfoldable pub class_at_under : List ℕ → ℕ → Result Block BlockFault
  class_at_under s k = pick (ltb k (length s / block_bytes)) (class_of_under (block_at s k)) (Err fault.Index)

-- and under this unit's own
abbrev pub length_right : ℕ → ℕ → Bool
length_right = length_right_under record_limit

abbrev pub class_by : List ℕ → ℕ → ℕ → ℕ → Result Block BlockFault
class_by = class_by_under record_limit

abbrev pub class_of : List ℕ → Result Block BlockFault
class_of = class_of_under record_limit

abbrev pub class_at : List ℕ → ℕ → Result Block BlockFault
class_at = class_at_under record_limit
