-- Numbers of four bytes for words: the same sum modulo 65,535, and 0 for the same bytes.
use mathlib.Core.List.{List, [], ◌∷◌}
use mathlib.Core.Path.{◌≡◌, refl, ap, sym, ◌∙◌}
use Prim.Native.Nat.{ℕ, zero, suc, ◌+◌, ◌-◌, ◌*◌, ◌/◌, ◌%◌, ◌≤◌, ◌<◌}
use native.Mathlib.Omega.{arith}
use borrow.Author.Tests.{eq-eqb, ne_eqb}
use lib.Dec.{eqb}
use lib.ListN.{length, take, drop, get_or, length-drop, take-append-drop}
use lib.Seq.{take-length, take-take}
use Rattle.lists.specs.Words.{word_sum}
use Rattle.lists.proofs.Sums.{sum_split}
use Rattle.lists.specs.Fours.{number_at}
use Rattle.block.specs.Sums.{long_sum}
use Rattle.tape.specs.Numbers.{check_modulus}

-- four times a number by recursion, since `4 * suc j` does not compute
abbrev four : ℕ → ℕ
four zero = zero
four (suc j) = suc (suc (suc (suc (four j))))

four_is : (j : ℕ) → four j ≡ 4 * j
four_is zero = refl
four_is (suc j) = omega (arith, four_is j)

step : (j : ℕ) (l : List ℕ) → four (suc j) ≤ length l → long_sum (take (four (suc j)) l) ≡ long_sum (take (four j) l) + (get_or l (four j) 0 + 256 * get_or l (suc (four j)) 0 + 65536 * (get_or l (suc (suc (four j))) 0 + 256 * get_or l (suc (suc (suc (four j)))) 0))
unfolding long_sum
step j [] h = absurd (omega arith)
step j (a ∷ []) h = absurd (omega arith)
step j (a ∷ (b ∷ [])) h = absurd (omega arith)
step j (a ∷ (b ∷ (c ∷ []))) h = absurd (omega arith)
step zero (a ∷ (b ∷ (c ∷ (d ∷ r)))) h = omega arith
step (suc j) (a ∷ (b ∷ (c ∷ (d ∷ r)))) h = omega (arith, step j r (omega arith))

-- one number more
more : (j : ℕ) (l : List ℕ) → 4 * j + 3 < length l → long_sum (take (4 * (j + 1)) l) ≡ long_sum (take (4 * j) l) + number_at l (4 * j)
more j l h =
    let e : 4 * (j + 1) ≡ four (suc j) = omega (arith, four_is j) in
    let f : 4 * j ≡ four j = omega (arith, four_is j) in
    let p : 4 * j + 1 ≡ suc (four j) = omega (arith, four_is j) in
    let q : 4 * j + 2 ≡ suc (suc (four j)) = omega (arith, four_is j) in
    let r : 4 * j + 2 + 1 ≡ suc (suc (suc (four j))) = omega (arith, four_is j) in
    rw (e, r, q, p, f) (step j l (omega (arith, four_is j)))

-- two numbers more
pub two_more : (j : ℕ) (l : List ℕ) → 8 * j + 7 < length l → long_sum (take (8 * (j + 1)) l) ≡ long_sum (take (8 * j) l) + (number_at l (8 * j) + number_at l (8 * j + 4))
two_more j l h =
    let a : 8 * j ≡ 4 * (2 * j) = omega arith in
    let b : 8 * j + 4 ≡ 4 * (2 * j + 1) = omega arith in
    let c : 8 * (j + 1) ≡ 4 * (2 * j + 1 + 1) = omega arith in
    rw (c, b, a) (omega (arith, more (2 * j) l (omega arith), more (2 * j + 1) l (omega arith)))

-- the words and the numbers of one list, and how the two sums differ
pub record Folds (s t : ℕ) : Type 0 where
  pub over : ℕ
  pub is : s ≡ t + check_modulus * over
  pub least : over ≤ t

folds : (j : ℕ) (l : List ℕ) → four j ≤ length l → Folds (long_sum (take (four j) l)) (word_sum (take (four j) l))
unfolding long_sum word_sum
folds zero l h = record { over = 0; is = refl; least = omega arith }
folds (suc j) [] h = absurd (omega arith)
folds (suc j) (a ∷ []) h = absurd (omega arith)
folds (suc j) (a ∷ (b ∷ [])) h = absurd (omega arith)
folds (suc j) (a ∷ (b ∷ (c ∷ []))) h = absurd (omega arith)
folds (suc j) (a ∷ (b ∷ (c ∷ (d ∷ r)))) h =
    let f = folds j r (omega arith) in
    record { over = c + 256 * d + f.over; is = omega (arith, f.is); least = omega (arith, f.least) }

none_by : (s t k : ℕ) → s ≡ t + check_modulus * k → k ≤ t → eqb s 0 ≡ eqb t 0
none_by s zero k e h = eq-eqb s 0 (omega arith) ∙ sym (eq-eqb 0 0 refl)
none_by s (suc t) k e h = ne_eqb s 0 (λ (z : s ≡ 0). omega arith) ∙ sym (ne_eqb (suc t) 0 (λ (z : suc t ≡ 0). omega arith))

module _ (s t : ℕ) (f : Folds s t) where
  pub fold_same : s % check_modulus ≡ t % check_modulus
  fold_same = omega (arith, f.is)

  pub fold_none : eqb s 0 ≡ eqb t 0
  fold_none = none_by s t f.over f.is f.least

-- words in runs of eight bytes as numbers, and the words left over
module _ (b : List ℕ) (even : length b % 2 ≡ 0) where
  abbrev cut : ℕ
  cut = 8 * (length b / 8)

  parts : word_sum b ≡ word_sum (take cut b) + word_sum (drop cut b)
  parts =
      let c : cut ≡ 2 * (4 * (length b / 8)) = omega arith in
      ap word_sum (sym (take-append-drop cut b)) ∙ rw c (sum_split (4 * (length b / 8)) b (drop (2 * (4 * (length b / 8))) b) (omega arith))

  -- the words left over are all that is left
  left : take (2 * (length b % 8 / 2)) (take (length b - cut) (drop cut b)) ≡ drop cut b
  left =
      let n = length b - cut in
      let e : 2 * (length b % 8 / 2) ≡ n = omega (arith, even) in
      let whole : take n (drop cut b) ≡ drop cut b = ap (λ (k : ℕ). take k (drop cut b)) (sym (length-drop cut b)) ∙ take-length (drop cut b) in
      rw e (take-take n n (drop cut b) (omega arith) ∙ whole)

  pub summed : (x y : ℕ) → x ≡ long_sum (take cut b) → y ≡ word_sum (take (2 * (length b % 8 / 2)) (take (length b - cut) (drop cut b))) → Folds (x + y) (word_sum b)
  summed x y p q =
      let e : four (2 * (length b / 8)) ≡ cut = four_is (2 * (length b / 8)) ∙ omega arith in
      let f = folds (2 * (length b / 8)) b (omega (arith, e)) in
      let g : Folds (long_sum (take cut b)) (word_sum (take cut b)) = rw (← e) f in
      let r : y ≡ word_sum (drop cut b) = q ∙ ap word_sum left in
      record { over = g.over; is = omega (arith, parts, p, r, g.is); least = omega (arith, parts, g.least) }
