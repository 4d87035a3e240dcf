-- "Words are little-endian." (01, Numbers)
use Rattle.std.specs.Prelude.{List, [], ◌∷◌, ℕ, ◌+◌, ◌*◌, ◌/◌, ◌%◌, ◌<◌, get_or}

-- one more than the largest word
abbrev pub word_limit : ℕ
word_limit = 65536

-- the word in the bytes at i and i + 1
abbrev pub word_at : List ℕ → ℕ → ℕ
word_at b i = get_or b i 0 + 256 * get_or b (i + 1) 0

-- the two bytes of a word, low byte first
abbrev pub word_bytes : ℕ → List ℕ
word_bytes w = (w % 256) ∷ (w / 256) ∷ []

-- the sum of the words of a list of bytes
unfoldable pub word_sum : List ℕ → ℕ
word_sum [] = 0
word_sum (a ∷ []) = a
word_sum (a ∷ (b ∷ r)) = a + 256 * b + word_sum r

-- a list of bytes, as every lent slice of u8 is
abbrev pub Bytes : List ℕ → Type 0
Bytes s = (i : ℕ) → get_or s i 0 < 256
