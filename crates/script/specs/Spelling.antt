-- A number as text.
use Rattle.std.specs.Prelude.{List, ℕ, zero, suc, ◌^◌, ltb}
use Rattle.lists.specs.Pick.{pick}
use Rattle.io.specs.Digits.{last_digits}

-- the first count from k on, and at most `more` beyond it, of digits in base b that hold n
unfoldable pub places_from : ℕ → ℕ → ℕ → ℕ → ℕ
places_from b n k zero = k
places_from b n k (suc more) = pick (ltb n (b ^ k)) k (places_from b n (suc k) more)

-- n in base b, in the fewest digits that hold it and no fewer than `least`; a number has 64 bits, so 64 more are enough
unfoldable pub spelling : ℕ → ℕ → ℕ → List ℕ
spelling b least n = last_digits b (places_from b n least 64) n
