-- Numbers as bytes, low byte first.
use Rattle.std.specs.Prelude.{List, [], ◌∷◌, ◌++◌, ℕ, suc, drop}
use Rattle.lists.specs.Fours.{number_at, number_bytes}

-- an entry's head is so many numbers, of four bytes each; its length stands at its front as one more
abbrev pub head_count : ℕ
head_count = 31

abbrev pub head_length : ℕ
head_length = 124

abbrev pub front_length : ℕ
front_length = 4

unfoldable pub numbers_bytes : List ℕ → List ℕ
numbers_bytes [] = []
numbers_bytes (n ∷ ns) = number_bytes n ++ numbers_bytes ns

-- the first k numbers that stand in b
unfoldable pub head_numbers : ℕ → List ℕ → List ℕ
head_numbers ℕ.zero b = []
head_numbers (suc k) b = number_at b 0 ∷ head_numbers k (drop 4 b)
