-- Laws of words in bytes, and of the sum of the words of a list.
use mathlib.Core.Path.{◌≡◌, refl}
use mathlib.Core.List.{List, [], ◌∷◌, ◌++◌}
use Prim.Native.Nat.{ℕ, zero, suc, ◌+◌, ◌*◌, ◌/◌, ◌%◌, ◌≤◌, ◌<◌}
use native.Mathlib.Numerals.{add-one}
use native.Mathlib.Omega.{arith}
use lib.ListN.{length, take, get_or, replicate}
use Rattle.lists.specs.Words.{word_at, word_bytes, word_sum}

-- a word from its bytes, and its bytes from the word
pub word_whole : (a b : ℕ) → a < 256 → b < 256 → word_bytes (a + 256 * b) ≡ a ∷ b ∷ []
word_whole a b h k =
    let low : (a + 256 * b) % 256 ≡ a = omega arith in
    let high : (a + 256 * b) / 256 ≡ b = omega arith in
    cc

pub word_back : (w : ℕ) → w % 256 + 256 * (w / 256) ≡ w
word_back w = omega arith

-- twice a number by recursion, since `2 * suc j` does not compute
abbrev dbl : ℕ → ℕ
dbl zero = zero
dbl (suc j) = suc (suc (dbl j))

dbl_is : (j : ℕ) → dbl j ≡ 2 * j
dbl_is zero = refl
dbl_is (suc j) = omega (arith, dbl_is j)

step : (j : ℕ) (l : List ℕ) → suc (dbl j) < length l → word_sum (take (suc (suc (dbl j))) l) ≡ word_sum (take (dbl j) l) + (get_or l (dbl j) 0 + 256 * get_or l (suc (dbl j)) 0)
unfolding word_sum
step j [] h = absurd (omega arith)
step j (a ∷ []) h = absurd (omega arith)
step zero (a ∷ (b ∷ r)) h = omega arith
step (suc j) (a ∷ (b ∷ r)) h = omega (arith, step j r (omega arith))

-- the sum of one word more
pub sum_more : (j : ℕ) (l : List ℕ) → 2 * j + 1 < length l → word_sum (take (2 * (j + 1)) l) ≡ word_sum (take (2 * j) l) + word_at l (2 * j)
sum_more j l h =
    let e : 2 * (j + 1) ≡ suc (suc (2 * j)) = omega arith in
    rw (e, add-one (2 * j), ← dbl_is j) (step j l (rw dbl_is (omega arith)))

split : (m : ℕ) (l r : List ℕ) → dbl m ≤ length l → word_sum (take (dbl m) l ++ r) ≡ word_sum (take (dbl m) l) + word_sum r
unfolding word_sum
split zero l r h = omega arith
split (suc m) [] r h = absurd (omega arith)
split (suc m) (a ∷ []) r h = absurd (omega arith)
split (suc m) (a ∷ (b ∷ l)) r h = omega (arith, split m l r (omega arith))

-- the sum of two runs, the first of whole words
pub sum_split : (m : ℕ) (l r : List ℕ) → 2 * m ≤ length l → word_sum (take (2 * m) l ++ r) ≡ word_sum (take (2 * m) l) + word_sum r
sum_split m l r h = rw (← dbl_is m) (split m l r (rw dbl_is h))

-- a sum is 0 only of zeros
pub sum_zero : (l : List ℕ) → word_sum l ≡ 0 → l ≡ replicate (length l) 0
unfolding word_sum
sum_zero [] h = refl
sum_zero (a ∷ []) h = cc
sum_zero (a ∷ (b ∷ r)) h =
    let p : a ≡ 0 = omega arith in
    let q : b ≡ 0 = omega arith in
    cc (sum_zero r (omega arith))

pub zero_sum : (n : ℕ) → word_sum (replicate n 0) ≡ 0
unfolding word_sum
zero_sum zero = refl
zero_sum (suc zero) = refl
zero_sum (suc (suc n)) = omega (arith, zero_sum n)
