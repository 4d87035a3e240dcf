-- Lists of bytes stay lists of bytes.
use mathlib.Core.Bool.{Bool}
use mathlib.Core.List.{List, [], ◌∷◌, ◌++◌}
use Prim.Native.Nat.{ℕ, zero, suc, ◌<◌}
use native.Mathlib.Omega.{arith}
use lib.ListN.{set}
use lib.Seq.{sets}
use Rattle.lists.specs.Places.{gathered, place}
use Rattle.lists.specs.Words.{Bytes}

pub bytes_append : (xs ys : List ℕ) → Bytes xs → Bytes ys → Bytes (xs ++ ys)
bytes_append [] ys h k i = k i
bytes_append (x ∷ xs) ys h k zero = h 0
bytes_append (x ∷ xs) ys h k (suc i) = bytes_append xs ys (λ j. h (suc j)) k i

pub bytes_set : (l : List ℕ) (i v : ℕ) → Bytes l → v < 256 → Bytes (set l i v)
bytes_set [] i v h k j = h j
bytes_set (a ∷ l) zero v h k zero = k
bytes_set (a ∷ l) zero v h k (suc j) = h (suc j)
bytes_set (a ∷ l) (suc i) v h k zero = h 0
bytes_set (a ∷ l) (suc i) v h k (suc j) = bytes_set l i v (λ m. h (suc m)) k j

pub bytes_sets : (vs l : List ℕ) (i : ℕ) → Bytes l → Bytes vs → Bytes (sets l i vs)
bytes_sets [] l i h k = h
bytes_sets (v ∷ vs) l i h k = bytes_sets vs (set l i v) (suc i) (bytes_set l i v h (k 0)) (λ j. k (suc j))

pub bytes_gathered : (w : Bool) (m : List ℕ) (a n : ℕ) → Bytes m → Bytes (gathered w m a n)
unfolding gathered
bytes_gathered w m a zero h i = omega arith
bytes_gathered w m a (suc n) h zero = h (place w a)
bytes_gathered w m a (suc n) h (suc i) = bytes_gathered w m (suc a) n h i
