-- A block of 512 bytes whose padding and check are right is the block laid from its own three words and data.
use mathlib.Core.Path.{◌≡◌, refl, sym, ap, ap₂, ◌∙◌}
use mathlib.Core.Bool.{true, and-eq-true_iff}
use mathlib.Core.List.{List, [], ◌∷◌, ◌++◌}
use Prim.Native.Nat.{ℕ, suc, ◌+◌, ◌-◌, ◌≤◌, ◌<◌}
use native.Mathlib.Numerals.{add-one}
use native.Mathlib.Omega.{arith}
use borrow.Author.Tests.{eqb-true}
use lib.Dec.{eqb}
use lib.ListN.{length, take, drop, get_or, replicate, length-drop, take-append-drop}
use lib.Seq.{drop-cons, length-take-le, take-add, take_all, take-take}
use Rattle.lists.proofs.Sums.{word_whole}
use Rattle.lists.specs.Words.{word_at, word_bytes, Bytes}
use Rattle.tape.specs.Layout.{block_of, body_of, check_of}
use Rattle.tape.specs.Numbers.{block_bytes, data_bytes, head_bytes, summed_bytes}
use Rattle.tape.specs.Reading.{check_right, padding_right, zeros}

zeros_only : (l : List ℕ) → zeros l ≡ true → l ≡ replicate (length l) 0
unfolding zeros
zeros_only [] e = refl
zeros_only (a ∷ l) e =
    let p = (and-eq-true_iff (eqb a 0) (zeros l)).0 e in
    cc (eqb-true a 0 p.0, zeros_only l p.1)

module _ (b : List ℕ) (bytes : Bytes b) (whole : length b ≡ block_bytes) where
  word_part : (j : ℕ) → j + 1 < block_bytes → take 2 (drop j b) ≡ word_bytes (word_at b j)
  word_part j h =
      let e : take 2 (drop j b) ≡ get_or b j 0 ∷ get_or b (j + 1) 0 ∷ [] = rw (add-one j, drop-cons b j 0 (omega arith), drop-cons b (suc j) 0 (omega arith)) in
      e ∙ sym (word_whole (get_or b j 0) (get_or b (j + 1) 0) (bytes j) (bytes (j + 1)))

  head_part : take head_bytes b ≡ word_bytes (word_at b 0) ++ word_bytes (word_at b 2) ++ word_bytes (word_at b 4)
  head_part =
      rw (take-add 4 2 b, take-add 2 2 b, word_part 0 (omega arith), word_part 2 (omega arith), word_part 4 (omega arith))

  last_part : drop summed_bytes b ≡ word_bytes (word_at b summed_bytes)
  last_part = sym (take_all 2 (drop summed_bytes b) (rw length-drop (omega arith))) ∙ word_part summed_bytes (omega arith)

  module _ (u : ℕ) (fits : u ≤ data_bytes) (padded : padding_right b u ≡ true) where
    used_part : take (head_bytes + u) (take summed_bytes b) ≡ word_bytes (word_at b 0) ++ word_bytes (word_at b 2) ++ word_bytes (word_at b 4) ++ take u (drop head_bytes b)
    used_part = rw (take-take (head_bytes + u) summed_bytes b (omega arith), take-add head_bytes u b, head_part)

    rest_length : length (drop (head_bytes + u) (take summed_bytes b)) ≡ data_bytes - length (take u (drop head_bytes b))
    rest_length = rw (length-drop, length-take-le summed_bytes b (omega arith), length-take-le u (drop head_bytes b) (rw length-drop (omega arith))) (omega arith)

    rest_part : drop (head_bytes + u) (take summed_bytes b) ≡ replicate (data_bytes - length (take u (drop head_bytes b))) 0
    unfolding padding_right
    rest_part = rw (← rest_length) (zeros_only (drop (head_bytes + u) (take summed_bytes b)) padded)

    body_part : take summed_bytes b ≡ body_of (word_at b 0) (word_at b 2) (word_at b 4) (take u (drop head_bytes b))
    unfolding body_of
    body_part = sym (take-append-drop (head_bytes + u) (take summed_bytes b)) ∙ ap₂ ◌++◌ used_part rest_part

    pub rebuilt : check_right b ≡ true → b ≡ block_of (word_at b 0) (word_at b 2) (word_at b 4) (take u (drop head_bytes b))
    unfolding block_of check_right
    rebuilt checked =
        let sum : word_at b summed_bytes ≡ check_of (take summed_bytes b) = eqb-true (word_at b summed_bytes) (check_of (take summed_bytes b)) checked in
        sym (take-append-drop summed_bytes b) ∙ ap₂ ◌++◌ body_part (last_part ∙ ap word_bytes (sum ∙ ap check_of body_part))
