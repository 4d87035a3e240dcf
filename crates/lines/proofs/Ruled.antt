-- Laws of `named` and `within`: they go down from the last word, a walk goes up to it.
use mathlib.Core.Path.{◌≡◌, refl, ap, ◌∙◌}
use mathlib.Core.Bool.{Bool, true, false, ◌&&◌, ◌||◌, not}
use mathlib.Core.List.{List, [], ◌∷◌, ◌++◌}
use Prim.Native.Nat.{ℕ, zero, suc, ◌+◌}
use native.Mathlib.Omega.{arith}
use Rattle.std.specs.List.{list_all, list_any, range_with_len}
use Rattle.lines.specs.Makes.{number_at}
use Rattle.lines.specs.Starts.{has_word}
use Rattle.lines.specs.Rules.{held_by, named, says, within}

-- one number more at a range's end
last_of : (a n : ℕ) → range_with_len a (suc n) ≡ range_with_len a n ++ ((a + n) ∷ [])
last_of a zero = let e : a + 0 ≡ a = omega arith in rw e
last_of a (suc n) = let e : a + 1 + n ≡ a + suc n = omega arith in rw (last_of (a + 1) n, e)

any_end : (p : ℕ → Bool) (l : List ℕ) (x : ℕ) → list_any p (l ++ (x ∷ [])) ≡ (p x || list_any p l)
any_end p [] x = refl
any_end p (y ∷ l) x = ap (λ (b : Bool). p y || b) (any_end p l x) ∙ swap (p y) (p x) (list_any p l)
  where
    swap : (a b c : Bool) → (a || (b || c)) ≡ (b || (a || c))
    swap true true c = refl
    swap true false c = refl
    swap false b c = refl

all_end : (p : ℕ → Bool) (l : List ℕ) (x : ℕ) → list_all p (l ++ (x ∷ [])) ≡ (p x && list_all p l)
all_end p [] x = refl
all_end p (y ∷ l) x = ap (λ (b : Bool). p y && b) (all_end p l x) ∙ swap (p y) (p x) (list_all p l)
  where
    swap : (a b c : Bool) → (a && (b && c)) ≡ (b && (a && c))
    swap true b c = refl
    swap false true c = refl
    swap false false c = refl

pub named_any : (t : List ℕ) (n k : ℕ) → list_any (λ j. says (number_at t j) n) (range_with_len 1 k) ≡ named t n k
unfolding named
named_any t n zero = refl
named_any t n (suc k) =
    let p = λ (j : ℕ). says (number_at t j) n in
    let e : 1 + k ≡ suc k = omega arith in
    ap (list_any p) (last_of 1 k)
    ∙ any_end p (range_with_len 1 k) (1 + k)
    ∙ ap (λ (b : Bool). p (1 + k) || b) (named_any t n k)
    ∙ ap (λ (j : ℕ). p j || named t n k) e

pub within_all : (a b : List ℕ) (k : ℕ) → list_all (λ j. not (has_word a j) || held_by b (number_at a j)) (range_with_len 1 k) ≡ within a b k
unfolding within
within_all a b zero = refl
within_all a b (suc k) =
    let p = λ (j : ℕ). not (has_word a j) || held_by b (number_at a j) in
    let e : 1 + k ≡ suc k = omega arith in
    ap (list_all p) (last_of 1 k)
    ∙ all_end p (range_with_len 1 k) (1 + k)
    ∙ ap (λ (c : Bool). p (1 + k) && c) (within_all a b k)
    ∙ ap (λ (j : ℕ). p j && within a b k) e
