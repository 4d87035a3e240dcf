-- Numbers of four bytes: a number comes back from its bytes, and the one at p is the first of what stands from p on.
use mathlib.Core.Path.{◌≡◌}
use mathlib.Core.List.{List, ◌++◌}
use Prim.Native.Nat.{ℕ, ◌+◌}
use native.Mathlib.Nat.{add-zero}
use native.Mathlib.Omega.{arith}
use lib.ListN.{drop}
use lib.Seq.{get_or-drop}
use Rattle.lists.specs.Fours.{number_at, number_bytes}

pub number_back : (n : ℕ) (r : List ℕ) → number_at (number_bytes n ++ r) 0 ≡ n
number_back n r = omega arith

pub number_first : (b : List ℕ) (p : ℕ) → number_at (drop p b) 0 ≡ number_at b p
number_first b p =
    let e : p + 2 + 1 ≡ p + 3 = omega arith in
    rw (get_or-drop p b 0 0, get_or-drop p b 1 0, get_or-drop p b 2 0, get_or-drop p b 3 0, add-zero p, e)
