-- The stores that lay a block come to the block: its words, its data and its padding join into one run, and the check closes it.
use mathlib.Core.List.{List, ◌++◌}
use mathlib.Core.Path.{◌≡◌, ◌∙◌}
use Prim.Native.Nat.{ℕ, ◌+◌, ◌-◌, ◌%◌, ◌≤◌}
use native.Mathlib.Omega.{arith}
use borrow.Rule.Slice.PartMut.{put_mid}
use lib.ListN.{length, take, drop, replicate, length-append, length-replicate}
use lib.Seq.{sets, length-sets}
use Rattle.lists.specs.Words.{word_bytes, word_sum}
use Rattle.lists.proofs.Stores.{filled, sets_at, sets_more, sets_part, sets_whole}
use Rattle.tape.specs.Numbers.{block_bytes, check_modulus, data_bytes, head_bytes, summed_bytes}
use Rattle.tape.specs.Layout.{block_of, body_of, check_of}
use Rattle.tape.proofs.Blocks.{length_body}

-- three words, the data, and zeros up to the check are one run
joined : (b d : List ℕ) (k n i : ℕ) → sets (sets (sets (sets (sets b 0 (word_bytes k)) 2 (word_bytes n)) 4 (word_bytes i)) head_bytes d) (head_bytes + length d) (replicate (data_bytes - length d) 0) ≡ sets b 0 (body_of k n i d)
unfolding body_of
joined b d k n i = sets_more d (replicate (data_bytes - length d) 0) (sets (sets (sets b 0 (word_bytes k)) 2 (word_bytes n)) 4 (word_bytes i)) head_bytes

-- the bytes before the check, from b₀ on: words, then the data g in one lent part, then zeros z in the next
module _ (b₀ b₁ b₂ b₃ g z : List ℕ) (k n i used : ℕ) (f : ℕ → List ℕ) (l : (m : ℕ) → length (f m) ≡ m) (long : length b₀ ≡ block_bytes) (low : used ≤ data_bytes) where
  pub body_laid : b₁ ≡ sets b₀ 0 (word_bytes k) → b₂ ≡ sets b₁ 2 (word_bytes n) → b₃ ≡ sets b₂ 4 (word_bytes i) → g ≡ f (length (take (head_bytes + used - head_bytes) (drop head_bytes b₃))) → z ≡ replicate (length (take (summed_bytes - (head_bytes + used)) (drop (head_bytes + used) (put_mid head_bytes (head_bytes + used - head_bytes) b₃ g)))) 0 → put_mid (head_bytes + used) (summed_bytes - (head_bytes + used)) (put_mid head_bytes (head_bytes + used - head_bytes) b₃ g) z ≡ sets b₀ 0 (body_of k n i (f used))
  body_laid e₁ e₂ e₃ e₄ e₅ =
      let l₃ : length b₃ ≡ block_bytes = rw (e₃, length-sets, e₂, length-sets, e₁, length-sets) long in
      let u : head_bytes + used - head_bytes ≡ used = omega arith in
      let v : summed_bytes - (head_bytes + used) ≡ data_bytes - used = omega arith in
      let p = filled f l b₃ g head_bytes (head_bytes + used) (omega arith) (omega arith) e₄ in
      let l₄ : length (put_mid head_bytes (head_bytes + used - head_bytes) b₃ g) ≡ block_bytes = rw (p, length-sets) l₃ in
      let q = filled (λ m. replicate m 0) (λ m. length-replicate m 0) (put_mid head_bytes (head_bytes + used - head_bytes) b₃ g) z (head_bytes + used) summed_bytes (omega arith) (omega arith) e₅ in
      cc (joined b₀ (f used) k n i, l used)

-- the check word goes behind whatever 510 bytes were laid
sealed : (b body : List ℕ) → length b ≡ block_bytes → length body ≡ summed_bytes → sets (sets b 0 body) summed_bytes (word_bytes (word_sum (take summed_bytes (sets b 0 body)) % check_modulus)) ≡ body ++ word_bytes (check_of body)
unfolding check_of
sealed b body h e =
    let t : take summed_bytes (sets b 0 body) ≡ body = rw (← e) (sets_part body b 0 (omega arith)) in
    rw t (sets_at body (word_bytes (word_sum body % check_modulus)) b 0 summed_bytes (omega arith) ∙ sets_whole (body ++ word_bytes (word_sum body % check_modulus)) b (simp length-append (omega arith)))

-- the check of b₅, stored into it
module _ (b₀ b₅ b₆ d : List ℕ) (k n i s : ℕ) (long : length b₀ ≡ block_bytes) (low : length d ≤ data_bytes) where
  pub block_laid : b₅ ≡ sets b₀ 0 (body_of k n i d) → s ≡ word_sum (take summed_bytes b₅) % check_modulus → b₆ ≡ sets b₅ summed_bytes (word_bytes s) → b₆ ≡ block_of k n i d
  unfolding block_of
  block_laid e p q = rw (q, p, e) (sealed b₀ (body_of k n i d) long (length_body k n i d low))
