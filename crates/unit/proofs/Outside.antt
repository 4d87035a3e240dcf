-- The code tests a store's length alone and then its place by a difference; the definition tests their sum. `a` is the test before them.
use mathlib.Core.Path.{◌≡◌, refl, sym, ◌∙◌}
use mathlib.Core.Bool.{Bool, true, false, ◌||◌}
use Prim.Native.Nat.{ℕ, ◌+◌, ◌-◌, ◌<◌, ◌≤◌}
use native.Mathlib.Omega.{arith}
use borrow.Author.Tests.{ltb-true, ltb-false, lt-ltb, le-ltb}
use lib.Dec.{ltb}
use Rattle.lists.proofs.Cases.{by_test}
use Rattle.state.proofs.Tests.{neither}

module _ (memory place n : ℕ) where
  -- too long for memory wherever it is put
  pub too_long : (a : Bool) → (a || ltb memory n) ≡ true → (a || ltb memory (place + n)) ≡ true
  too_long true h = refl
  too_long false h = lt-ltb memory (place + n) (omega (arith, ltb-true memory n h))

  pub short_enough : (a : Bool) → (a || ltb memory n) ≡ false → n ≤ memory
  short_enough a h = ltb-false memory n (neither a (ltb memory n) h).1

  pub outside : (a : Bool) → (a || ltb memory n) ≡ false → memory - n < place → (a || ltb memory (place + n)) ≡ true
  outside a h k =
      let t = neither a (ltb memory n) h in
      rw t.0 (lt-ltb memory (place + n) (omega (arith, ltb-false memory n t.1)))

  pub inside : (a : Bool) → (a || ltb memory n) ≡ false → place ≤ memory - n → (a || ltb memory (place + n)) ≡ false
  inside a h k =
      let t = neither a (ltb memory n) h in
      rw t.0 (le-ltb memory (place + n) (omega (arith, ltb-false memory n t.1)))

  -- the test by a difference is the test by a sum
  pub by_difference : (a : Bool) → (a || ltb memory n) ≡ false → ltb (memory - n) place ≡ (a || ltb memory (place + n))
  by_difference a h =
      by_test (ltb (memory - n) place)
      (λ t. t ∙ sym (outside a h (ltb-true (memory - n) place t)))
      (λ t. t ∙ sym (inside a h (ltb-false (memory - n) place t)))
