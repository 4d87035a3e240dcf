-- Of a laid block the unused data bytes are 0, and the last word is the check word of the body.
use mathlib.Core.Path.{◌≡◌, refl}
use mathlib.Core.Bool.{true}
use mathlib.Core.List.{List, [], ◌∷◌, ◌++◌}
use Prim.Native.Nat.{ℕ, zero, suc, ◌+◌, ◌-◌, ◌/◌, ◌%◌, ◌≤◌}
use native.Mathlib.Omega.{arith}
use borrow.Author.Tests.{eq-eqb}
use lib.ListN.{length, take, drop, get_or, replicate}
use lib.Seq.{take_at, drop_at, get_or-append-add, get_or-append_seam}
use Rattle.lists.proofs.Sums.{word_back}
use Rattle.lists.specs.Words.{word_at, word_bytes}
use Rattle.tape.proofs.Blocks.{length_body}
use Rattle.tape.specs.Layout.{block_of, body_of, check_of}
use Rattle.tape.specs.Numbers.{data_bytes, head_bytes, summed_bytes}
use Rattle.tape.specs.Reading.{check_right, padding_right, zeros}

zeros_replicate : (m : ℕ) → zeros (replicate m 0) ≡ true
unfolding zeros
zeros_replicate zero = refl
zeros_replicate (suc m) = zeros_replicate m

-- the word just behind a list
word_behind : (l : List ℕ) (w m : ℕ) → length l ≡ m → word_at (l ++ word_bytes w) m ≡ w
word_behind l w m e =
    let low : get_or (l ++ word_bytes w) m 0 ≡ w % 256 = rw (← e) (get_or-append_seam l (w % 256) (w / 256 ∷ []) 0) in
    let high : get_or (l ++ word_bytes w) (m + 1) 0 ≡ w / 256 = rw (← e) (get_or-append-add l (word_bytes w) 1 0) in
    omega (arith, word_back w)

module _ (k n i : ℕ) (d : List ℕ) (h : length d ≤ data_bytes) where
  block_body : take summed_bytes (block_of k n i d) ≡ body_of k n i d
  unfolding block_of
  block_body = take_at (body_of k n i d) (word_bytes (check_of (body_of k n i d))) summed_bytes (length_body k n i d h)

  body_rest : drop (head_bytes + length d) (body_of k n i d) ≡ replicate (data_bytes - length d) 0
  unfolding body_of
  body_rest = drop_at (word_bytes k ++ word_bytes n ++ word_bytes i ++ d) (replicate (data_bytes - length d) 0) (head_bytes + length d) (omega arith)

  check_word_lem : word_at (block_of k n i d) summed_bytes ≡ check_of (body_of k n i d)
  unfolding block_of
  check_word_lem = word_behind (body_of k n i d) (check_of (body_of k n i d)) summed_bytes (length_body k n i d h)

  pub block_padding : padding_right (block_of k n i d) (length d) ≡ true
  unfolding padding_right
  block_padding = rw (block_body, body_rest) (zeros_replicate (data_bytes - length d))

  pub block_check : check_right (block_of k n i d) ≡ true
  unfolding check_right
  block_check = eq-eqb (word_at (block_of k n i d) summed_bytes) (check_of (take summed_bytes (block_of k n i d))) (rw block_body check_word_lem)
