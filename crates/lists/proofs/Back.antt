-- A run of stores is undone by the bytes that were at its places.
use mathlib.Core.Path.{◌≡◌, ◌∙◌}
use mathlib.Core.Bool.{Bool, false}
use mathlib.Core.List.{List}
use Prim.Native.Nat.{ℕ, zero, suc, ◌+◌, ◌≤◌, ◌<◌}
use native.Mathlib.Nat.{add-suc, suc-add, add-zero}
use native.Mathlib.Omega.{arith}
use borrow.Author.Tests.{eqb-true, eqb-false}
use lib.Dec.{eqb}
use lib.ListN.{length, take, drop, get_or, set, length-set}
use lib.Seq.{ext_get_or, get_or-set_other, get_or-set_same, sets}
use Rattle.lists.specs.Places.{gathered, place, placed}
use Rattle.lists.proofs.Cases.{by_test}
use Rattle.lists.proofs.Placed.{gathered_plain, length_placed, placed_other, placed_plain}

-- j is off a run that starts at a if it is neither the first place nor on the rest
off_both : (w : Bool) (a n j : ℕ) → (j ≡ place w a → ⊥) → ((i : ℕ) → i < n → j ≡ place w (suc a + i) → ⊥) → (i : ℕ) → i < suc n → j ≡ place w (a + i) → ⊥
off_both w a n j k g zero h e = k (rw (add-zero a) at e)
off_both w a n j k g (suc i) h e = g i (omega arith) (rw (add-suc a i, ← suc-add a i) at e)

-- one byte of m stored over x
set_back : (m x : List ℕ) (p j : ℕ) → length x ≡ length m → j < length m → ((j ≡ p → ⊥) → get_or x j 0 ≡ get_or m j 0) → get_or (set x p (get_or m p 0)) j 0 ≡ get_or m j 0
set_back m x p j e h f =
    by_test (eqb j p)
    (λ t. let q : j ≡ p = eqb-true j p t in rw q (get_or-set_same x p (get_or m p 0) 0 (omega arith)))
    (λ t. get_or-set_other x p j (get_or m p 0) 0 (eqb-false j p t) ∙ f (eqb-false j p t))

-- a run of m's own bytes over x: off the run x has to agree with m
pub byte_back : (w : Bool) (m x : List ℕ) (a n j : ℕ) → length x ≡ length m → j < length m → (((i : ℕ) → i < n → j ≡ place w (a + i) → ⊥) → get_or x j 0 ≡ get_or m j 0) → get_or (placed w x a (gathered w m a n)) j 0 ≡ get_or m j 0
unfolding placed gathered
byte_back w m x a zero j e h f = f (λ i k. absurd (omega arith))
byte_back w m x a (suc n) j e h f =
    byte_back w m (set x (place w a) (get_or m (place w a) 0)) (suc a) n j (length-set x (place w a) (get_or m (place w a) 0) ∙ e) h
    (λ g. set_back m x (place w a) j e h (λ k. f (off_both w a n j k g)))

pub same_back : (w : Bool) (m x : List ℕ) (a n : ℕ) → length x ≡ length m → ((j : ℕ) → j < length m → ((i : ℕ) → i < n → j ≡ place w (a + i) → ⊥) → get_or x j 0 ≡ get_or m j 0) → placed w x a (gathered w m a n) ≡ m
same_back w m x a n e f =
    let long : length (placed w x a (gathered w m a n)) ≡ length m = length_placed w x a (gathered w m a n) ∙ e in
    ext_get_or 0 (placed w x a (gathered w m a n)) m long (λ j h. let k : j < length m = omega arith in byte_back w m x a n j e k (f j k))

-- what was at the places, put back
pub put_back : (w : Bool) (m : List ℕ) (a : ℕ) (d : List ℕ) → placed w (placed w m a d) a (gathered w m a (length d)) ≡ m
put_back w m a d =
    same_back w m (placed w m a d) a (length d) (length_placed w m a d) (λ j h f. placed_other w m a j d f)

-- with no swap the bytes of the run are a part
pub part_placed : (m x : List ℕ) (a n : ℕ) → a + n ≤ length m → sets x a (take n (drop a m)) ≡ placed false x a (gathered false m a n)
part_placed m x a n h = rw (placed_plain x a (gathered false m a n), gathered_plain m a n h)

pub sets_back : (vs l : List ℕ) (i : ℕ) → i + length vs ≤ length l → sets (sets l i vs) i (take (length vs) (drop i l)) ≡ l
sets_back vs l i h = rw (part_placed l (sets l i vs) i (length vs) h, ← placed_plain l i vs) (put_back false l i vs)
