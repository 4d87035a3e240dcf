-- Laws of tests: which way parts of a test went, and two numbers' tests that say the same.
use mathlib.Core.Path.{◌≡◌, refl, sym}
use mathlib.Core.Bool.{Bool, true, false, ◌||◌, ◌&&◌, not, true≢false, and-eq-true_iff}
use Prim.Native.Nat.{ℕ, ◌*◌, ◌/◌, ◌%◌}
use native.Mathlib.Omega.{arith}
use borrow.Author.Tests.{eqb-true, eq-eqb}
use lib.Dec.{eqb}
use Rattle.lists.specs.Pick.{pick}
use Rattle.tape.specs.Numbers.{block_bytes}

-- a test of two parts that did not hold
pub neither : (a b : Bool) → (a || b) ≡ false → (a ≡ false) × (b ≡ false)
neither true b h = absurd (true≢false h)
neither false b h = (refl, h)

-- a part that counts only where a is clear
pub unless : (a b : Bool) → (not a && b) ≡ false → a ≡ false → b ≡ false
unless true b h e = absurd (true≢false e)
unless false b h e = h

pub none_unless : (a b : Bool) → (a ≡ false → b ≡ false) → (not a && b) ≡ false
none_unless true b h = refl
none_unless false b h = h refl

-- what holds of both ways of a choice holds of the choice
pub either : {A : Type 0} (P : A → Type 0) (t : Bool) (a o : A) → P a → P o → P (pick t a o)
either P true a o p q = p
either P false a o p q = q

-- two tests, each of which follows from the other
same : (a b : Bool) → (a ≡ true → b ≡ true) → (b ≡ true → a ≡ true) → a ≡ b
same true true f g = refl
same true false f g = sym (f refl)
same false true f g = g refl
same false false f g = refl

-- a length in whole blocks, by its rest and quotient and by a product
pub whole_blocks : (n blocks : ℕ) → (eqb (n % block_bytes) 0 && eqb (n / block_bytes) blocks) ≡ eqb n (block_bytes * blocks)
whole_blocks n blocks =
    let parts = and-eq-true_iff (eqb (n % block_bytes) 0) (eqb (n / block_bytes) blocks) in
    same (eqb (n % block_bytes) 0 && eqb (n / block_bytes) blocks) (eqb n (block_bytes * blocks))
    (λ p. eq-eqb n (block_bytes * blocks) (omega (arith, eqb-true (n % block_bytes) 0 (parts.0 p).0, eqb-true (n / block_bytes) blocks (parts.0 p).1)))
    (λ p.
    let e : n ≡ block_bytes * blocks = eqb-true n (block_bytes * blocks) p in
    parts.1 (eq-eqb (n % block_bytes) 0 (omega arith), eq-eqb (n / block_bytes) blocks (omega arith)))
