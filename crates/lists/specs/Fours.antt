-- Numbers of four bytes, low byte first: an entry's, a state block's, and those of a table's places.
use Rattle.std.specs.Prelude.{List, ◌++◌, ℕ, ◌+◌, ◌*◌, ◌/◌, ◌%◌}
use Rattle.lists.specs.Words.{word_at, word_bytes}

-- one more than the largest number of four bytes
abbrev pub number_limit : ℕ
number_limit = 4294967296

abbrev pub number_bytes : ℕ → List ℕ
number_bytes n = word_bytes (n % 65536) ++ word_bytes (n / 65536)

abbrev pub number_at : List ℕ → ℕ → ℕ
number_at b at = word_at b at + 65536 * word_at b (at + 2)
