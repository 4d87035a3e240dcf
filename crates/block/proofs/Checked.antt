-- The 255 words before the check are summed in two runs: the words with data, and those after them.
use mathlib.Core.List.{List, ◌++◌}
use mathlib.Core.Path.{◌≡◌, ap, ◌∙◌}
use Prim.Native.Nat.{ℕ, ◌+◌, ◌-◌, ◌*◌, ◌%◌, ◌≤◌}
use native.Mathlib.Omega.{arith}
use lib.ListN.{length, take, drop}
use lib.Seq.{drop_at, length-take-le, take-add}
use lib.Dec.{eqb}
use Rattle.lists.specs.Words.{word_at, word_sum}
use Rattle.lists.proofs.Sums.{sum_split}
use Rattle.tape.specs.Numbers.{check_modulus, summed_bytes, summed_words}
use Rattle.tape.specs.Layout.{check_of}
use Rattle.tape.specs.Reading.{check_right}

module _ (b : List ℕ) (w : ℕ) (long : summed_bytes ≤ length b) (low : w ≤ summed_words) where
  in_two : take summed_bytes b ≡ take (2 * w) b ++ take (summed_bytes - 2 * w) (drop (2 * w) b)
  in_two =
      let e : summed_bytes ≡ 2 * w + (summed_bytes - 2 * w) = omega arith in
      ap (λ (n : ℕ). take n b) e ∙ take-add (2 * w) (summed_bytes - 2 * w) b

  pub second : drop (2 * w) (take summed_bytes b) ≡ take (summed_bytes - 2 * w) (drop (2 * w) b)
  second = rw in_two (drop_at (take (2 * w) b) (take (summed_bytes - 2 * w) (drop (2 * w) b)) (2 * w) (length-take-le (2 * w) b (omega arith)))

  pub check_in_two : check_right b ≡ eqb (word_at b summed_bytes) ((word_sum (take (2 * w) b) + word_sum (drop (2 * w) (take summed_bytes b))) % check_modulus)
  unfolding check_right check_of
  check_in_two =
      let e : word_sum (take summed_bytes b) ≡ word_sum (take (2 * w) b) + word_sum (drop (2 * w) (take summed_bytes b)) = rw second (ap word_sum in_two ∙ sum_split w b (take (summed_bytes - 2 * w) (drop (2 * w) b)) (omega arith)) in
      ap (λ (n : ℕ). eqb (word_at b summed_bytes) (n % check_modulus)) e
