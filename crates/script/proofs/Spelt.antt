-- Laws of `spelling`: its digits are the fewest that hold the number, and no others are.
use mathlib.Core.Path.{◌≡◌, ap}
use mathlib.Core.List.{List}
use Prim.Native.Nat.{ℕ, zero, suc, ◌+◌, ◌-◌, ◌^◌, ◌≤◌, ◌<◌}
use native.Mathlib.Nat.{add-zero, pow-le-pow_left, pow-le-pow_right}
use native.Mathlib.Omega.{arith}
use borrow.Author.Tests.{leb-false, leb-true, ltb-false, ltb-true}
use lib.Dec.{leb, ltb}
use Rattle.lists.proofs.Cases.{by_test}
use Rattle.io.specs.Digits.{last_digits, IsDigitCount}
use Rattle.script.specs.Prints.{Put}
use Rattle.script.specs.Spelling.{places_from, spelling}

module _ (b least n : ℕ) where
  -- fewer than k do not hold n, and k and `more` do
  from_here : (more k : ℕ) → least ≤ k → (least < k → b ^ (k - 1) ≤ n) → n < b ^ (k + more) → IsDigitCount b least n (places_from b n k more)
  unfolding places_from
  from_here zero k h f g = (h, rw add-zero at g, f)
  from_here (suc more) k h f g =
      by_test (ltb n (b ^ k))
      (λ e. rw e (h, ltb-true n (b ^ k) e, f))
      (λ e. rw e (from_here more (suc k) (omega arith) (λ _. rw suc_sub_one (ltb-false n (b ^ k) e)) (rw (shift k more) at g)))
    where
      suc_sub_one : suc k - 1 ≡ k
      suc_sub_one = omega arith

      shift : (k m : ℕ) → k + suc m ≡ suc k + m
      shift k m = omega arith

  pub places_fewest : 2 ≤ b → n < 18446744073709551616 → IsDigitCount b least n (places_from b n least 64)
  places_fewest h g =
      from_here 64 least (omega arith) (λ (l : least < least). absurd (omega arith))
      (omega (arith, pow-le-pow_left {n = 2} {m = b} h 64, pow-le-pow_right {n = b} (omega arith) {i = 64} {j = least + 64} (omega arith)))

  -- there is one such count
  one_count : (j k : ℕ) → 0 < b → IsDigitCount b least n j → IsDigitCount b least n k → k ≤ j
  one_count j k h p q =
      by_test (leb k j) (λ e. leb-true k j e)
      (λ e. let m : j < k = leb-false k j e in
      let u : j ≤ k - 1 = omega arith in
      absurd (omega (arith, q.2 (omega (arith, p.0)), p.1, pow-le-pow_right {n = b} h {i = j} {j = k - 1} u)))

  pub spelt : (k : ℕ) → 2 ≤ b → n < 18446744073709551616 → IsDigitCount b least n k → last_digits b k n ≡ spelling b least n
  unfolding spelling
  spelt k h g p =
      let q = places_fewest h g in
      let e : k ≡ places_from b n least 64 = omega (arith, one_count k (places_from b n least 64) (omega arith) p q, one_count (places_from b n least 64) k (omega arith) q p) in
      ap (λ (j : ℕ). last_digits b j n) e

  -- what a function put that put the fewest digits
  pub put_spelt : (k at r : ℕ) (o t o' : List ℕ) → 2 ≤ b → n < 18446744073709551616 → IsDigitCount b least n k → t ≡ last_digits b k n → Put o at t o' r → Put o at (spelling b least n) o' r
  put_spelt k at r o t o' h g p e q = rw (← spelt k h g p, ← e) q
