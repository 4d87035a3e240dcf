-- What is wrong with a block, by facts about its words and bytes. (01, The reel; 02, [4])
use Rattle.std.specs.Prelude.{List, ◌≡◌, ℕ, ◌+◌, ◌/◌, ◌≤◌, ◌<◌, length, take, get_or}
use Rattle.lists.specs.Words.{word_at}
use Rattle.tape.specs.Numbers.{block_bytes, head_bytes, pieces_of, record_limit, summed_bytes}
use Rattle.tape.specs.Layout.{check_of, gap_kind, mark_kind, piece_kind}
use Rattle.tape.specs.Reading.{block_at, used_of}
use Rattle.tape.specs.declared.BlockFault.{BlockFault}
use Rattle.tape.specs.declared.BlockFault.TheVariants as fault

-- "Kinds: 1 record piece, 2 tape mark, 3 erased gap."
pub data KindGood (b : List ℕ) : Type 0 where
  kind_piece : word_at b 0 ≡ piece_kind → KindGood b
  kind_mark : word_at b 0 ≡ mark_kind → KindGood b
  kind_gap : word_at b 0 ≡ gap_kind → KindGood b

-- "Records: 1 to [65,535] bytes"; of marks and gaps "all else 0"
pub data LengthGood (b : List ℕ) : Type 0 where
  of_record : word_at b 0 ≡ piece_kind → 1 ≤ word_at b 2 → word_at b 2 ≤ record_limit → LengthGood b
  of_blank : (word_at b 0 ≡ piece_kind → ⊥) → word_at b 2 ≡ 0 → LengthGood b

-- "A record of n bytes takes n/504 blocks rounded up; indices run from 0"
pub data IndexGood (b : List ℕ) : Type 0 where
  of_piece : word_at b 0 ≡ piece_kind → word_at b 4 < pieces_of (word_at b 2) → IndexGood b
  of_single : (word_at b 0 ≡ piece_kind → ⊥) → word_at b 4 ≡ 0 → IndexGood b

-- "unused data bytes are 0"
abbrev pub PaddingGood : List ℕ → Type 0
PaddingGood b = (j : ℕ) → head_bytes + used_of (word_at b 0) (word_at b 2) (word_at b 4) ≤ j → j < summed_bytes → get_or b j 0 ≡ 0

-- "a last word: the sum of the 255 words before it, modulo 65,535"
abbrev pub CheckGood : List ℕ → Type 0
CheckGood b = word_at b summed_bytes ≡ check_of (take summed_bytes b)

-- "kind, length, index, padding and check apart, first in that order": one of them is wrong, and all before it are right
pub data FirstWrong (b : List ℕ) : BlockFault → Type 0 where
  kind : (KindGood b → ⊥) → FirstWrong b fault.Kind
  size : KindGood b → (LengthGood b → ⊥) → FirstWrong b fault.Length
  index : KindGood b → LengthGood b → (IndexGood b → ⊥) → FirstWrong b fault.Index
  padding : KindGood b → LengthGood b → IndexGood b → (PaddingGood b → ⊥) → FirstWrong b fault.Padding
  check : KindGood b → LengthGood b → IndexGood b → PaddingGood b → (CheckGood b → ⊥) → FirstWrong b fault.Check

-- what is wrong with block k of the reel s, which can't be taken: the first of the five; where none is, "out of place": index
pub data WrongAt (s : List ℕ) (k : ℕ) : BlockFault → Type 0 where
  by_itself : {f : BlockFault} → k < length s / block_bytes → FirstWrong (block_at s k) f → WrongAt s k f
  misplaced : k < length s / block_bytes → ((f : BlockFault) → FirstWrong (block_at s k) f → ⊥) → WrongAt s k fault.Index
  -- no call comes to it: the recorded end lies on the reel
  not_there : length s / block_bytes ≤ k → WrongAt s k fault.Index
