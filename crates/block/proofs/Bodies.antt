-- Padding and check from one reading of the words: the shared byte, the two sums and the check word decide both.
use mathlib.Core.Bool.{◌&&◌, ◌||◌}
use mathlib.Core.List.{List}
use mathlib.Core.Path.{◌≡◌, ap, ◌∙◌}
use Prim.Native.Nat.{ℕ, ◌+◌, ◌-◌, ◌*◌, ◌/◌, ◌%◌, ◌≤◌}
use native.Mathlib.Omega.{arith}
use lib.Dec.{eqb}
use lib.ListN.{length, take, drop, get_or}
use Rattle.lists.specs.Words.{word_at, word_sum}
use lib.Seq.{take-add}
use Rattle.lists.proofs.Sums.{sum_split}
use Rattle.block.proofs.Checked.{check_in_two, second}
use Rattle.block.proofs.Padding.{full_padding, padding_sum, words_with}
use Rattle.tape.specs.Numbers.{check_modulus, data_bytes, head_bytes, summed_bytes}
use Rattle.tape.specs.Layout.{check_of}
use Rattle.tape.specs.Reading.{check_right, padding_right, zeros}
use Rattle.block.specs.Halves.{body_right}

-- two sums of words, each as far as the check asks for it
sums_same : (h r x y : ℕ) → h % check_modulus ≡ x % check_modulus → r % check_modulus ≡ y % check_modulus → (h + r) % check_modulus ≡ (x + y) % check_modulus
sums_same h r x y p q = omega arith

module _ (b : List ℕ) (used shared three held rest check : ℕ) (long : summed_bytes ≤ length b) (low : used ≤ data_bytes) where
  -- the place behind the words in use
  abbrev cut : ℕ
  cut = (head_bytes + used + 1) / 2 * 2

  at_word : cut ≡ 2 * words_with used
  at_word = omega arith

  -- the head's three words and those with data
  in_use : word_sum (take cut b) ≡ word_sum (take (2 * 3) b) + word_sum (take (cut - head_bytes) (drop head_bytes b))
  in_use =
      let e : cut ≡ 2 * 3 + (cut - head_bytes) = omega arith in
      ap word_sum (ap (λ (n : ℕ). take n b) e ∙ take-add (2 * 3) (cut - head_bytes) b) ∙ sum_split 3 b (take (cut - head_bytes) (drop head_bytes b)) (omega arith)

  abbrev unused : ℕ
  unused = word_sum (take (summed_bytes - cut) (drop cut b))

  pub body_read : shared ≡ get_or b (head_bytes + used) 0 → three ≡ word_sum (take (2 * 3) b) → held % check_modulus ≡ word_sum (take (cut - head_bytes) (drop head_bytes b)) % check_modulus → rest % check_modulus ≡ unused % check_modulus → eqb rest 0 ≡ eqb unused 0 → check ≡ word_at b summed_bytes → (((eqb (used % 2) 0 || eqb shared 0) && eqb rest 0) && eqb check ((three + held + rest) % check_modulus)) ≡ body_right b used
  unfolding body_right
  body_read p w q r z s =
      let h : (three + held) % check_modulus ≡ word_sum (take cut b) % check_modulus = omega (arith, in_use, w, q) in
      let padding : padding_right b used ≡ ((eqb (used % 2) 0 || eqb (get_or b (head_bytes + used) 0) 0) && eqb (word_sum (drop cut (take summed_bytes b))) 0) = rw at_word (padding_sum b used long low) in
      let two : check_right b ≡ eqb (word_at b summed_bytes) ((word_sum (take cut b) + word_sum (drop cut (take summed_bytes b))) % check_modulus) = rw at_word (check_in_two b (words_with used) long (omega arith)) in
      let behind : drop cut (take summed_bytes b) ≡ take (summed_bytes - cut) (drop cut b) = rw at_word (second b (words_with used) long (omega arith)) in
      rw (sums_same (three + held) rest (word_sum (take cut b)) unused h r, z)
      (cc (padding, two, behind))

pub full_read : (b : List ℕ) (sum check : ℕ) → summed_bytes ≤ length b → check ≡ word_at b summed_bytes → sum ≡ word_sum (take summed_bytes b) % check_modulus → eqb check sum ≡ body_right b data_bytes
unfolding body_right padding_right check_right check_of zeros
full_read b sum check long p q = rw (full_padding b long, p, q)
