-- Bytes that are copied from a list to a place in another, a part at a time: n bytes of d from `from` on are `take n (drop from d)`.
use mathlib.Core.Path.{◌≡◌, ◌∙◌}
use mathlib.Core.List.{List}
use Prim.Native.Nat.{ℕ, ◌+◌, ◌-◌, ◌*◌, ◌/◌, ◌≤◌, ◌<◌}
use Rattle.std.proofs.Math.Nat.{lt-mul-div-succ, mul-add, mul-div-le, mul-le-mul_left}
use native.Mathlib.Omega.{arith}
use lib.ListN.{length, take, drop, get_or, set}
use lib.Seq.{sets, take-add, drop-cons, drop-drop}
use Rattle.lists.proofs.Stores.{length_part, sets_at, sets_over, sets_whole}

-- a part that fills b leaves nothing of it
pub part_whole : (b d : List ℕ) (from n : ℕ) → from + n ≤ length d → length b ≡ n → sets b 0 (take n (drop from d)) ≡ take n (drop from d)
part_whole b d from n h e = sets_whole (take n (drop from d)) b (rw (length_part d from n h, e))

-- m bytes more
copy_more : (b d : List ℕ) (from at i m : ℕ) → from + i ≤ length d → sets (sets b at (take i (drop from d))) (at + i) (take m (drop (from + i) d)) ≡ sets b at (take (i + m) (drop from d))
copy_more b d from at i m h = rw (take-add i m (drop from d), drop-drop i from d) (sets_at (take i (drop from d)) (take m (drop (from + i) d)) b at (at + i) (rw (length_part d from i h)))

-- one byte more, from q to p
pub copy_byte : (b d : List ℕ) (from at i p q : ℕ) → p ≡ at + i → q ≡ from + i → q < length d → set (sets b at (take i (drop from d))) p (get_or d q 0) ≡ sets b at (take (i + 1) (drop from d))
copy_byte b d from at i p q e f h = rw (e, ← copy_more b d from at i 1 (omega arith), ← f, drop-cons d q 0 h)

-- of a part the first j bytes go before the first m, at the same place
part_over : (b d : List ℕ) (from at j m : ℕ) → j ≤ m → from + m ≤ length d → sets (sets b at (take j (drop from d))) at (take m (drop from d)) ≡ sets b at (take m (drop from d))
part_over b d from at j m h g = sets_over (take j (drop from d)) (take m (drop from d)) b at (rw (length_part d from j (omega arith), length_part d from m g) h)

-- the last m bytes, where the first i are there already: they may go over some of those
copy_last : (b d : List ℕ) (from at i k m : ℕ) → k ≤ i → i ≤ k + m → from + (k + m) ≤ length d → sets (sets b at (take i (drop from d))) (at + k) (take m (drop (from + k) d)) ≡ sets b at (take (k + m) (drop from d))
copy_last b d from at i k m h g f =
    let e : i ≡ k + (i - k) = omega arith in
    rw (e, ← copy_more b d from at k (i - k) (omega arith))
    (part_over (sets b at (take k (drop from d))) d (from + k) (at + k) (i - k) m (omega arith) (omega arith) ∙ copy_more b d from at k m (omega arith))

-- a turn and the end of a loop that copies m bytes at a time: x has the first i of them, r is read, and y is what r leaves when it is stored
module _ (b d : List ℕ) (from at i m : ℕ) {x r y : List ℕ} (e : x ≡ sets b at (take i (drop from d))) where
  pub copied_more : r ≡ take m (drop (from + i) d) → y ≡ sets x (at + i) r → from + i ≤ length d → y ≡ sets b at (take (i + m) (drop from d))
  copied_more p q h = rw (q, p, e) (copy_more b d from at i m h)

  pub copied_at : {p : ℕ} → r ≡ take m (drop (from + p) d) → y ≡ sets x (at + p) r → p ≡ i → from + i ≤ length d → y ≡ sets b at (take (i + m) (drop from d))
  copied_at {p} e1 q f h = copied_more (rw f at e1) (rw f at q) h

  pub copied_last : (k n : ℕ) → r ≡ take m (drop (from + k) d) → y ≡ sets x (at + k) r → n ≡ k + m → k ≤ i → i ≤ n → from + n ≤ length d → y ≡ sets b at (take n (drop from d))
  copied_last k n p q f h g j = rw (q, p, e, f) (copy_last b d from at i k m h (omega arith) (omega arith))

-- whole runs of m of n bytes: run k lies within them, the one after it begins where it ends, and behind the last fewer are left than a run has
module _ (m n : ℕ) where
  pub run_next : (k : ℕ) → m * (k + 1) ≡ m * k + m
  run_next k = omega (arith, mul-add m k 1)

  pub run_within : (k : ℕ) → k < n / m → m * k + m ≤ n
  run_within k h =
      let within : m * (k + 1) ≤ m * (n / m) = mul-le-mul_left m (omega arith) in
      omega (arith, within, mul-div-le n m, run_next k)

  pub runs_rest : 0 < m → n ≤ m * (n / m) + m
  runs_rest h = omega (arith, lt-mul-div-succ n h, run_next (n / m))
