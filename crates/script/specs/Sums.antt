-- CRC-32 as zlib has it, bit by bit: polynomial 3988292384 with its bits in reverse, all bits flipped before and after.
use Rattle.std.specs.Prelude.{List, [], ◌∷◌, ◌++◌, ℕ, zero, suc, ◌/◌, ◌%◌, eqb, get_or}
use Rattle.std.specs.Int.Bits.{bit_xor}
use Rattle.lists.specs.Pick.{pick}

-- one bit, and n of them
unfoldable pub step : ℕ → ℕ
step c = pick (eqb (c % 2) 1) (bit_xor (c / 2) 3988292384) (c / 2)

unfoldable pub steps : ℕ → ℕ → ℕ
steps zero c = c
steps (suc n) c = steps n (step c)

-- the bytes of a list, each eight bits
unfoldable pub summed : ℕ → List ℕ → ℕ
summed c [] = c
summed c (b ∷ t) = summed (steps 8 (bit_xor c b)) t

unfoldable pub crc32 : List ℕ → ℕ
crc32 t = bit_xor (summed 4294967295 t) 4294967295

-- what eight bits make of each of the first n numbers
unfoldable pub table_to : ℕ → List ℕ
table_to zero = []
table_to (suc n) = table_to n ++ (steps 8 n ∷ [])

abbrev pub crc_table : List ℕ
crc_table = table_to 256

-- the same sum where eight bits at once are looked up in a table
unfoldable pub tabled : List ℕ → ℕ → List ℕ → ℕ
tabled l c [] = c
tabled l c (b ∷ t) = tabled l (bit_xor (get_or l (bit_xor c b % 256) 0) (c / 256)) t

unfoldable pub crc_by : List ℕ → List ℕ → ℕ
crc_by l t = bit_xor (tabled l 4294967295 t) 4294967295
