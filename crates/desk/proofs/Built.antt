-- Laws of the bytes that lines put into the reel.
use Rattle.std.proofs.Common.{◌≡◌, List, ℕ, ◌+◌, ◌-◌, ◌*◌, ◌%◌, ◌≤◌, length, take, drop, false, ap, ◌∙◌, arith}
use lib.Seq.{sets, take-take}
use Rattle.lists.specs.Places.{gathered}
use Rattle.lists.specs.Words.{word_bytes, word_sum}
use Rattle.lists.proofs.Placed.{gathered_plain}
use Rattle.tape.specs.Layout.{check_of}
use Rattle.tape.specs.Numbers.{block_bytes, check_modulus, summed_bytes}
use Rattle.tape.specs.Objects.{Object}
use Rattle.desk.specs.Builds.{check_bytes, check_place, laid_at}

-- the check word that a sum asks
check_is : (m n : ℕ) (l : List ℕ) (sum : ℕ) → m ≤ n → sum ≡ word_sum (take m (take n l)) → sum % check_modulus ≡ check_of (take m l)
unfolding check_of
check_is m n l sum h e = ap (λ (x : ℕ). x % check_modulus) (e ∙ ap word_sum (take-take m n l h))

-- the check word of a block, out of the block lent as a part
pub check_put : (s o : List ℕ) (k sum : ℕ) → sum ≡ word_sum (take summed_bytes (take (block_bytes * k + block_bytes - block_bytes * k) (drop (block_bytes * k) s))) → o ≡ sets s (block_bytes * k + summed_bytes) (word_bytes (sum % check_modulus)) → o ≡ sets s (check_place k) (check_bytes s k)
check_put s o k sum e f = f ∙ ap (λ (x : ℕ). sets s (check_place k) (word_bytes x)) (check_is summed_bytes (block_bytes * k + block_bytes - block_bytes * k) (drop (block_bytes * k) s) sum (omega arith) e)

-- the bytes that are laid are data's first
pub laid_front : (s d o : List ℕ) (p n : ℕ) → n ≤ length d → o ≡ laid_at s p (Object.record_of (gathered false d 0 n)) → o ≡ laid_at s p (Object.record_of (take n d))
laid_front s d o p n h e = e ∙ ap (λ (t : List ℕ). laid_at s p (Object.record_of t)) (gathered_plain d 0 n (omega arith))
