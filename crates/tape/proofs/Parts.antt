-- Parts of lists: only what is there is taken, and the bytes of a part are bytes.
use mathlib.Core.Path.{◌≡◌, ap}
use mathlib.Core.List.{List, [], ◌∷◌}
use Prim.Native.Nat.{ℕ, zero, suc, min}
use native.Mathlib.Nat.{zero-min, min-zero, suc-min-suc}
use native.Mathlib.Omega.{arith}
use lib.ListN.{length, take, drop}
use Rattle.lists.specs.Words.{Bytes}

pub take_there : (m : ℕ) (l : List ℕ) → take m l ≡ take (min m (length l)) l
take_there zero l = rw (zero-min (length l))
take_there (suc m) [] = rw (min-zero (suc m))
take_there (suc m) (x ∷ l) = rw (suc-min-suc m (length l)) (ap (λ (t : List ℕ). x ∷ t) (take_there m l))

bytes_take : (n : ℕ) (l : List ℕ) → Bytes l → Bytes (take n l)
bytes_take zero l h i = omega arith
bytes_take (suc n) [] h i = h i
bytes_take (suc n) (x ∷ l) h zero = h 0
bytes_take (suc n) (x ∷ l) h (suc i) = bytes_take n l (λ j. h (suc j)) i

bytes_drop : (n : ℕ) (l : List ℕ) → Bytes l → Bytes (drop n l)
bytes_drop zero l h = h
bytes_drop (suc n) [] h = h
bytes_drop (suc n) (x ∷ l) h = bytes_drop n l (λ j. h (suc j))

pub bytes_part : (n a : ℕ) (l : List ℕ) → Bytes l → Bytes (take n (drop a l))
bytes_part n a l h = bytes_take n (drop a l) (bytes_drop a l h)
