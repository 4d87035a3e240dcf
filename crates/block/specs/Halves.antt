-- A block's two halves, as the code looks at them: the three words first, then the data bytes with the check word.
use Rattle.std.specs.Prelude.{Bool, ◌&&◌, List, ℕ}
use Rattle.lists.specs.Pick.{pick}
use Rattle.lists.specs.Words.{word_at}
use Rattle.tape.specs.Reading.{check_right, index_right, kind_right, length_right, padding_right, used_of}
use Rattle.tape.specs.declared.BlockFault.{BlockFault}
use Rattle.tape.specs.declared.BlockFault.TheVariants as fault

unfoldable pub head_right : ℕ → ℕ → ℕ → Bool
head_right k n i = kind_right k && (length_right k n && index_right k n i)

unfoldable pub body_right : List ℕ → ℕ → Bool
body_right b used = padding_right b used && check_right b

-- what is told of a block that isn't right: where nothing else is wrong, its check
unfoldable pub wrong_by : List ℕ → ℕ → ℕ → ℕ → BlockFault
wrong_by b k n i =
    pick (kind_right k)
    (pick (length_right k n) (pick (index_right k n i) (pick (padding_right b (used_of k n i)) fault.Check fault.Padding) fault.Index) fault.Length)
    fault.Kind

unfoldable pub wrong_in : List ℕ → BlockFault
wrong_in b = wrong_by b (word_at b 0) (word_at b 2) (word_at b 4)
