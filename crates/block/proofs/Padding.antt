-- Padding by sums: bytes are all 0 just where the sum of their words is, and a byte that shares its word with data is looked at alone.
use mathlib.Core.Bool.{◌&&◌, ◌||◌, and-true}
use mathlib.Core.List.{List, [], ◌∷◌, append-nil}
use mathlib.Core.Path.{◌≡◌, refl, sym, ap, ◌∙◌}
use Prim.Native.Nat.{ℕ, zero, suc, ◌+◌, ◌-◌, ◌*◌, ◌/◌, ◌%◌, ◌≤◌}
use native.Mathlib.Omega.{arith}
use borrow.Author.Tests.{ne_eqb}
use lib.Dec.{eqb}
use lib.ListN.{length, take, drop, get_or}
use lib.Seq.{drop_at, length-take-le, slice-cons}
use Rattle.std.specs.List.{list_all}
use Rattle.std.proofs.lemmas.List.{drop-take}
use Rattle.lists.specs.Words.{word_sum}
use Rattle.tape.specs.Numbers.{data_bytes, head_bytes, summed_bytes}
use Rattle.tape.specs.Reading.{padding_right, zeros}

-- a sum is 0 just where each of its parts is
word_zero : (a b s : ℕ) → (eqb a 0 && (eqb b 0 && eqb s 0)) ≡ eqb (a + 256 * b + s) 0
word_zero zero zero zero = refl
word_zero (suc a) b s = simp (ne_eqb (suc a) 0 (λ e. omega arith), ne_eqb (suc a + 256 * b + s) 0 (λ e. omega arith))
word_zero zero (suc b) s = simp (ne_eqb (suc b) 0 (λ e. omega arith), ne_eqb (0 + 256 * suc b + s) 0 (λ e. omega arith))
word_zero zero zero (suc s) = simp (ne_eqb (suc s) 0 (λ e. omega arith), ne_eqb (0 + 256 * 0 + suc s) 0 (λ e. omega arith))

pub zeros_sum : (l : List ℕ) → zeros l ≡ eqb (word_sum l) 0
unfolding zeros word_sum
zeros_sum [] = refl
zeros_sum (a ∷ []) = and-true (eqb a 0)
zeros_sum (a ∷ (b ∷ r)) = rw (zeros_sum r) (word_zero a b (word_sum r))

-- a block whose data bytes are all in use has no padding
pub full_padding : (b : List ℕ) → summed_bytes ≤ length b → drop summed_bytes (take summed_bytes b) ≡ []
full_padding b long =
    ap (drop summed_bytes) (sym (append-nil (take summed_bytes b)))
    ∙ drop_at (take summed_bytes b) [] summed_bytes (length-take-le summed_bytes b long)

-- the same a byte at a time
all_zeros : (l : List ℕ) → list_all (λ x. eqb x 0) l ≡ zeros l
unfolding zeros
all_zeros [] = refl
all_zeros (a ∷ r) = ap (λ z. eqb a 0 && z) (all_zeros r)

pub padding_bytes : (b : List ℕ) (used : ℕ) → used ≤ data_bytes → list_all (λ x. eqb x 0) (take (summed_bytes - (head_bytes + used)) (drop (head_bytes + used) b)) ≡ padding_right b used
unfolding padding_right
padding_bytes b used low =
    let i = head_bytes + used in
    let n = summed_bytes - i in
    let e : i + n ≡ summed_bytes = omega arith in
    all_zeros (take n (drop i b)) ∙ ap zeros (rw e at (sym (drop-take i n b)))

-- how many words hold the head and the data: an odd last byte counts as a word
abbrev pub words_with : ℕ → ℕ
words_with used = 3 + (used + 1) / 2

module _ (b : List ℕ) (used : ℕ) (long : summed_bytes ≤ length b) (low : used ≤ data_bytes) where
  even : used % 2 ≡ 0 → padding_right b used ≡ zeros (drop (2 * words_with used) (take summed_bytes b))
  unfolding padding_right
  even e =
      let p : head_bytes + used ≡ 2 * words_with used = omega arith in
      rw p

  odd : used % 2 ≡ 1 → padding_right b used ≡ (eqb (get_or b (head_bytes + used) 0) 0 && zeros (drop (2 * words_with used) (take summed_bytes b)))
  unfolding padding_right zeros
  odd e =
      let p : 2 * words_with used ≡ suc (head_bytes + used) = omega arith in
      rw (p, slice-cons (head_bytes + used) summed_bytes b 0 (omega arith) long)

  by_rest : (m : ℕ) → used % 2 ≡ m → padding_right b used ≡ ((eqb (used % 2) 0 || eqb (get_or b (head_bytes + used) 0) 0) && zeros (drop (2 * words_with used) (take summed_bytes b)))
  by_rest zero e = even e ∙ rw e
  by_rest (suc zero) e = odd e ∙ rw e
  by_rest (suc (suc m)) e = absurd (omega arith)

  pub padding_sum : padding_right b used ≡ ((eqb (used % 2) 0 || eqb (get_or b (head_bytes + used) 0) 0) && eqb (word_sum (drop (2 * words_with used) (take summed_bytes b))) 0)
  padding_sum = by_rest (used % 2) refl ∙ rw (zeros_sum (drop (2 * words_with used) (take summed_bytes b)))
