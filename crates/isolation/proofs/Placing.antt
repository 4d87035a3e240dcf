-- The same bytes stored in two memories: they are the same after it where a byte was stored, or where they were the same.
use mathlib.Core.Bool.{Bool, false}
use mathlib.Core.List.{List, [], ◌∷◌}
use mathlib.Core.Path.{◌≡◌, refl, sym, ◌∙◌}
use Prim.Native.Nat.{ℕ, zero, suc}
use native.Mathlib.Nat.{add-suc, add-zero, suc-add}
use native.Mathlib.Omega.{arith}
use lib.ListN.{get_or, length, length-set, set}
use lib.Seq.{sets}
use Rattle.lists.specs.Places.{place, placed}
use Rattle.lists.proofs.Placed.{placed_plain}
use Rattle.touched.specs.Touches.{OffRun}

-- one byte
set_alike : (m m' : List ℕ) (p b j : ℕ) → length m ≡ length m' → ((j ≡ p → ⊥) → get_or m j 0 ≡ get_or m' j 0) → get_or (set m p b) j 0 ≡ get_or (set m' p b) j 0
set_alike [] [] p b j e f = refl
set_alike [] (y ∷ m') p b j e f = absurd (omega arith)
set_alike (x ∷ m) [] p b j e f = absurd (omega arith)
set_alike (x ∷ m) (y ∷ m') zero b zero e f = refl
set_alike (x ∷ m) (y ∷ m') zero b (suc j) e f = f (λ q. omega arith)
set_alike (x ∷ m) (y ∷ m') (suc p) b zero e f = f (λ q. omega arith)
set_alike (x ∷ m) (y ∷ m') (suc p) b (suc j) e f = set_alike m m' p b j (omega arith) (λ n. f (λ q. n (omega arith)))

-- off the first place and off the rest
off_both : (w : Bool) (a n j : ℕ) → (j ≡ place w a → ⊥) → OffRun w (suc a) n j → OffRun w a (suc n) j
off_both w a n j k g zero h e = k (rw (add-zero a) at e)
off_both w a n j k g (suc i) h e = g i (omega arith) (rw (add-suc a i, ← suc-add a i) at e)

-- a run of bytes
pub placed_alike : (w : Bool) (m m' : List ℕ) (a : ℕ) (d : List ℕ) (j : ℕ) → length m ≡ length m' → (OffRun w a (length d) j → get_or m j 0 ≡ get_or m' j 0) → get_or (placed w m a d) j 0 ≡ get_or (placed w m' a d) j 0
unfolding placed
placed_alike w m m' a [] j e f = f (λ i h. absurd (omega arith))
placed_alike w m m' a (b ∷ d) j e f =
    placed_alike w (set m (place w a) b) (set m' (place w a) b) (suc a) d j (length-set m (place w a) b ∙ e ∙ sym (length-set m' (place w a) b))
    (λ g. set_alike m m' (place w a) b j e (λ k. f (off_both w a (length d) j k g)))

-- with no swap
pub sets_alike : (m m' : List ℕ) (a : ℕ) (d : List ℕ) (j : ℕ) → length m ≡ length m' → get_or m j 0 ≡ get_or m' j 0 → get_or (sets m a d) j 0 ≡ get_or (sets m' a d) j 0
sets_alike m m' a d j e h = rw (← placed_plain m a d, ← placed_plain m' a d) (placed_alike false m m' a d j e (λ o. h))
