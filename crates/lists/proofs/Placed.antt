-- Laws of `place`, `placed` and `gathered`: runs of bytes that go to places in memory and come from there.
-- (The name `Places` is taken: rattle makes a module `places` of the source.)
use mathlib.Core.Path.{◌≡◌, refl, ap, ◌∙◌}
use mathlib.Core.Bool.{Bool, true, false}
use mathlib.Core.List.{List, [], ◌∷◌, ◌++◌}
use Prim.Native.Nat.{ℕ, zero, suc, ◌+◌, ◌-◌, ◌%◌, ◌≤◌, ◌<◌}
use native.Mathlib.Nat.{add-suc, suc-add, add-zero, suc-sub-suc, sub-zero}
use native.Mathlib.Numerals.{add-one}
use native.Mathlib.Omega.{arith}
use lib.ListN.{length, take, drop, get_or, set, length-set, take-append-drop}
use lib.Seq.{sets, drop-cons, drop-length, get_or-set_same, get_or-set_other}
use Rattle.lists.specs.Places.{place, placed, gathered}

-- an even memory holds the flipped place of each address that it holds
pub place_in : (w : Bool) (a n : ℕ) → a < n → n % 2 ≡ 0 → place w a < n
place_in true a n h e = omega arith
place_in false a n h e = h

-- two addresses never share a place
pub place_apart : (w : Bool) (a b : ℕ) → place w a ≡ place w b → a ≡ b
place_apart true a b e = omega arith
place_apart false a b e = e

-- how many bytes there are
pub length_placed : (w : Bool) (m : List ℕ) (a : ℕ) (d : List ℕ) → length (placed w m a d) ≡ length m
unfolding placed
length_placed w m a [] = refl
length_placed w m a (b ∷ d) = length_placed w (set m (place w a) b) (suc a) d ∙ length-set m (place w a) b

pub length_gathered : (w : Bool) (m : List ℕ) (a n : ℕ) → length (gathered w m a n) ≡ n
unfolding gathered
length_gathered w m a zero = refl
length_gathered w m a (suc n) = ap suc (length_gathered w m (suc a) n)

-- two runs of bytes that meet go as one
pub placed_more : (w : Bool) (m : List ℕ) (a : ℕ) (xs ys : List ℕ) → placed w (placed w m a xs) (a + length xs) ys ≡ placed w m a (xs ++ ys)
unfolding placed
placed_more w m a [] ys = rw (add-zero a)
placed_more w m a (x ∷ xs) ys = rw (add-suc a (length xs), ← suc-add a (length xs)) (placed_more w (set m (place w a) x) (suc a) xs ys)

pub placed_at : (w : Bool) (m : List ℕ) (a j : ℕ) (xs ys : List ℕ) → j ≡ a + length xs → placed w (placed w m a xs) j ys ≡ placed w m a (xs ++ ys)
placed_at w m a j xs ys e = rw e (placed_more w m a xs ys)

-- one byte at its place p, and then the rest from there on
pub place_more : (w : Bool) (m d : List ℕ) (a i : ℕ) {p : ℕ} → p ≡ place w (a + i) → i < length d → placed w (set m p (get_or d i 0)) (a + (i + 1)) (drop (i + 1) d) ≡ placed w m (a + i) (drop i d)
unfolding placed
place_more w m d a i e h = rw (e, add-one i, add-suc a i, drop-cons d i 0 h)

pub gather_more : (w : Bool) (b m : List ℕ) (a i k n : ℕ) {p : ℕ} → p ≡ place w (a + i) → n ≡ suc k → sets (set b i (get_or m p 0)) (i + 1) (gathered w m (a + (i + 1)) k) ≡ sets b i (gathered w m (a + i) n)
unfolding gathered
gather_more w b m a i k n e f = rw (e, f, add-one i, add-suc a i)

-- with none left the rest is nothing
pub placed_none_lem : (w : Bool) (m d : List ℕ) (a i : ℕ) → i ≡ length d → placed w m a (drop i d) ≡ m
unfolding placed
placed_none_lem w m d a i e = rw (e, drop-length d)

pub gathered_none : (w : Bool) (b m : List ℕ) (i a n : ℕ) → n ≡ 0 → sets b i (gathered w m a n) ≡ b
unfolding gathered
gathered_none w b m i a n e = rw e

-- with no swap a run is a part of the memory
pub placed_plain : (m : List ℕ) (a : ℕ) (d : List ℕ) → placed false m a d ≡ sets m a d
unfolding placed
placed_plain m a [] = refl
placed_plain m a (b ∷ d) = placed_plain (set m a b) (suc a) d

pub gathered_plain : (m : List ℕ) (a n : ℕ) → a + n ≤ length m → gathered false m a n ≡ take n (drop a m)
unfolding gathered
gathered_plain m a zero h = refl
gathered_plain m a (suc n) h = rw (drop-cons m a 0 (omega arith)) (ap (λ (l : List ℕ). get_or m a 0 ∷ l) (gathered_plain m (suc a) n (omega arith)))

-- parts of what is gathered
pub gathered_take : (w : Bool) (m : List ℕ) (a c n : ℕ) → c ≤ n → take c (gathered w m a n) ≡ gathered w m a c
unfolding gathered
gathered_take w m a zero n h = refl
gathered_take w m a (suc c) zero h = absurd (omega arith)
gathered_take w m a (suc c) (suc n) h = ap (λ (l : List ℕ). get_or m (place w a) 0 ∷ l) (gathered_take w m (suc a) c n (omega arith))

pub gathered_drop : (w : Bool) (m : List ℕ) (a i n : ℕ) → i ≤ n → drop i (gathered w m a n) ≡ gathered w m (a + i) (n - i)
unfolding gathered
gathered_drop w m a zero n h = rw (add-zero a, sub-zero n)
gathered_drop w m a (suc i) zero h = absurd (omega arith)
gathered_drop w m a (suc i) (suc n) h = rw (add-suc a i, ← suc-add a i, suc-sub-suc n i) (gathered_drop w m (suc a) i n (omega arith))

pub gathered_append : (w : Bool) (m : List ℕ) (a i n : ℕ) → gathered w m a i ++ gathered w m (a + i) n ≡ gathered w m a (i + n)
gathered_append w m a i n =
    let e : i + n - i ≡ n = omega arith in
    cc (take-append-drop i (gathered w m a (i + n)), gathered_take w m a i (i + n) (omega arith), gathered_drop w m a i (i + n) (omega arith))

pub gathered_byte : (w : Bool) (m : List ℕ) (a i n : ℕ) → i < n → get_or (gathered w m a n) i 0 ≡ get_or m (place w (a + i)) 0
unfolding gathered
gathered_byte w m a i zero h = absurd (omega arith)
gathered_byte w m a zero (suc n) h = rw (add-zero a)
gathered_byte w m a (suc i) (suc n) h = rw (add-suc a i, ← suc-add a i) (gathered_byte w m (suc a) i n (omega arith))

-- what the run does not reach stays as it was
pub placed_other : (w : Bool) (m : List ℕ) (a j : ℕ) (d : List ℕ) → ((i : ℕ) → i < length d → j ≡ place w (a + i) → ⊥) → get_or (placed w m a d) j 0 ≡ get_or m j 0
unfolding placed
placed_other w m a j [] f = refl
placed_other w m a j (b ∷ d) f =
    placed_other w (set m (place w a) b) (suc a) j d (λ i h e. f (suc i) (omega arith) (rw (add-suc a i, ← suc-add a i) e))
    ∙ get_or-set_other m (place w a) j b 0 (λ e. f 0 (omega arith) (rw (add-zero a) e))

-- what went out comes back: the first byte is not written over, since no later one has its place
placed_first : (w : Bool) (m : List ℕ) (a b : ℕ) (d : List ℕ) → place w a < length m → get_or (placed w m a (b ∷ d)) (place w a) 0 ≡ b
unfolding placed
placed_first w m a b d h =
    placed_other w (set m (place w a) b) (suc a) (place w a) d (λ i k e. omega (arith, place_apart w a (suc a + i) e))
    ∙ get_or-set_same m (place w a) b 0 h

pub gathered_placed : (w : Bool) (m : List ℕ) (a : ℕ) (d : List ℕ) → a + length d ≤ length m → length m % 2 ≡ 0 → gathered w (placed w m a d) a (length d) ≡ d
unfolding placed gathered
gathered_placed w m a [] h e = refl
gathered_placed w m a (b ∷ d) h e =
    let first : get_or (placed w m a (b ∷ d)) (place w a) 0 ≡ b = placed_first w m a b d (place_in w a (length m) (omega arith) e) in
    cc (gathered_placed w (set m (place w a) b) (suc a) d (rw length-set (omega arith)) (rw length-set e))
