-- Laws of `last_end` and `place_from`.
use mathlib.Core.Path.{◌≡◌, refl, sym, ap, ◌∙◌}
use mathlib.Core.Bool.{Bool, true, false}
use mathlib.Core.List.{List, [], ◌∷◌}
use Prim.Native.Nat.{ℕ, zero, suc, ◌+◌, ◌-◌, ◌≤◌, ◌<◌}
use native.Mathlib.Numerals.{add-one}
use native.Mathlib.Nat.{sub-zero}
use native.Mathlib.Omega.{arith}
use borrow.Author.Tests.{eqb-false, eqb-true, ne_eqb, lt-ltb, le-ltb}
use lib.Dec.{eqb, ltb}
use lib.ListN.{length, take, drop}
use Rattle.std.specs.List.{AllWithin, HoldsAt}
use Rattle.std.specs.Prelude.{Option, Some, None, MatchOption, bytes_eq}
use Rattle.lists.proofs.Cases.{by_test}
use Rattle.script.specs.Words.{last_end, part, place_from, place_of, word_from, word_start}

-- where only blanks follow
pub end_none : (t : List ℕ) → AllWithin (λ x. x < 33) t 0 (length t) → last_end t ≡ 0
unfolding last_end
end_none [] h = refl
end_none (x ∷ t) h = rw (end_none t (λ k d _ l. h (suc k) d (omega arith) (omega arith)), lt-ltb x 33 (h 0 0 (omega arith) (omega arith)))

pub end_at : (t : List ℕ) (i : ℕ) → i < length t → HoldsAt (λ x. 32 < x) t i → AllWithin (λ x. x < 33) t (i + 1) (length t) → last_end t ≡ i + 1
unfolding last_end
end_at [] i h w b = absurd (omega arith)
end_at (x ∷ t) zero h w b =
    rw (end_none t (λ k d _ l. b (suc k) d (omega arith) (omega arith)), le-ltb x 33 (w 0)) (omega arith)
end_at (x ∷ t) (suc i) h w b =
    let e : last_end t ≡ i + 1 = end_at t i (omega arith) w (λ k d m l. b (suc k) d (omega arith) (omega arith)) in
    rw (ne_eqb (last_end t) 0 (λ (z : last_end t ≡ 0). omega arith), e) (omega arith)

-- a text whose front is left out ends as it did
end_drop : (t : List ℕ) (n : ℕ) → last_end (drop n t) ≡ last_end t - n
unfolding last_end
end_drop t zero = sym (sub-zero (last_end t))
end_drop [] (suc n) = omega arith
end_drop (x ∷ t) (suc n) =
    by_test (eqb (last_end t) 0)
    (λ e. by_test (ltb x 33) (λ f. end_drop t n ∙ rw (e, f) (omega (arith, eqb-true (last_end t) 0 e))) (λ f. end_drop t n ∙ rw (e, f) (omega (arith, eqb-true (last_end t) 0 e))))
    (λ e. end_drop t n ∙ rw e (omega arith))

-- what `trimmed` cuts out
module _ (t w : List ℕ) (p : w ≡ drop (word_start t 0) t) where
  pub trim_some : (i : ℕ) → i < length w → HoldsAt (λ x. 32 < x) w i → AllWithin (λ x. x < 33) w (i + 1) (length w) → take (i + 1) w ≡ part t (word_start t 0) (last_end t)
  trim_some i h k b =
      let e : i + 1 ≡ last_end t - word_start t 0 = sym (end_at w i h k b) ∙ ap last_end p ∙ end_drop t (word_start t 0) in
      rw (e, p)

  pub trim_none : AllWithin (λ x. x < 33) w 0 (length w) → [] ≡ part t (word_start t 0) (last_end t)
  trim_none b =
      let e : last_end t - word_start t 0 ≡ 0 = sym (end_drop t (word_start t 0)) ∙ ap last_end (sym p) ∙ end_none w b in
      rw e

-- whether word k of the list is w
abbrev pub Is : List ℕ → List ℕ → ℕ → Bool → Type 0
Is l w k b = bytes_eq (word_from l k) w ≡ b

-- the first of the n words from word k on that is w, or none of them
module _ (l w : List ℕ) where
  pub from_none : (k n : ℕ) → ((j : ℕ) → k ≤ j → j < k + n → Is l w j false) → place_from l w k n ≡ None
  unfolding place_from
  from_none k zero h = refl
  from_none k (suc n) h = rw (h k (omega arith) (omega arith)) (from_none (suc k) n (λ j a b. h j (omega arith) (omega arith)))

  pub from_some : (k n i : ℕ) → k ≤ i → i < k + n → Is l w i true → ((j : ℕ) → k ≤ j → j < i → Is l w j false) → place_from l w k n ≡ Some i
  unfolding place_from
  from_some k zero i a b y h = absurd (omega arith)
  from_some k (suc n) i a b y h =
      by_test (eqb k i)
      (λ e. let q : k ≡ i = eqb-true k i e in rw (q, y))
      (λ e. let q : k ≡ i → ⊥ = eqb-false k i e in rw (h k (omega arith) (omega arith)) (from_some (suc k) n i (omega arith) (omega arith) y (λ j c d. h j (omega arith) (omega arith))))

  pub place_found : (r : Option ℕ) → MatchOption r ((k : ℕ) → 0 ≤ k → k < length l → Is l w k false) (λ i. (0 ≤ i) × (i < length l) × Is l w i true × ((k : ℕ) → 0 ≤ k → k < i → Is l w k false)) → r ≡ place_of l w
  place_found None h = sym (from_none 0 (length l) (λ j a b. h j a (omega arith)))
  place_found (Some i) (a, b, y, h) = sym (from_some 0 (length l) i a (omega arith) y h)

-- the walk of `place_in`: word k, the first n bytes of v, is w, or the words behind it are looked at
module _ (l w : List ℕ) (k m n : ℕ) (v : List ℕ) (h : k < m) (p : take n v ≡ word_from l k) where
  left : m - k ≡ suc (m - (k + 1))
  left = omega arith

  pub place_stop : bytes_eq (take n v) w ≡ true → place_from l w k (m - k) ≡ Some k
  unfolding place_from
  place_stop f = rw (left, ← p, f)

  pub place_on : bytes_eq (take n v) w ≡ false → place_from l w k (m - k) ≡ place_from l w (k + 1) (m - (k + 1))
  unfolding place_from
  place_on f = rw (left, ← p, f, add-one k)

pub place_end : (l w : List ℕ) (k m : ℕ) → k ≡ m → place_from l w k (m - k) ≡ None
unfolding place_from
place_end l w k m h =
    let f : m - k ≡ 0 = omega arith in
    rw f
