-- A run of no bytes: nothing is gathered, and nothing is placed.
use mathlib.Core.Path.{◌≡◌, refl, sym}
use mathlib.Core.Bool.{Bool, true}
use mathlib.Core.List.{List, [], ◌∷◌}
use Prim.Native.Nat.{ℕ}
use native.Mathlib.Omega.{arith}
use borrow.Author.Tests.{eqb-true}
use lib.Dec.{eqb}
use lib.ListN.{length}
use Rattle.lists.specs.Places.{gathered, placed}

pub none_gathered : (swb : Bool) (b m : List ℕ) (a : ℕ) → true ≡ eqb (length b) 0 → b ≡ gathered swb m a (length b)
unfolding gathered
none_gathered swb [] m a t = refl
none_gathered swb (x ∷ b) m a t = absurd (omega (arith, eqb-true (length (x ∷ b)) 0 (sym t)))

pub none_placed : (swb : Bool) (d m : List ℕ) (a : ℕ) → true ≡ eqb (length d) 0 → m ≡ placed swb m a d
unfolding placed
none_placed swb [] m a t = refl
none_placed swb (x ∷ d) m a t = absurd (omega (arith, eqb-true (length (x ∷ d)) 0 (sym t)))
