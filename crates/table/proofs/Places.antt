-- P6 and P7: the places of a Read's bytes.
use mathlib.Core.Bool.{true}
use mathlib.Core.List.{List}
use mathlib.Core.Path.{◌≡◌, sym, ap, ◌∙◌}
use Prim.Native.Nat.{ℕ, ◌%◌, ◌≤◌}
use native.Mathlib.Omega.{arith}
use lib.ListN.{get_or, length}
use Rattle.lists.specs.Places.{gathered, placed}
use Rattle.lists.proofs.Placed.{gathered_byte, gathered_placed, placed_other}

module _ (m d : List ℕ) (e : length d ≡ 8) where
  pub after_first : get_or (placed true m 1001 d) 1001 0 ≡ get_or m 1001 0
  after_first = placed_other true m 1001 1001 d (λ i h k. omega arith)

  pub before_last : get_or (placed true m 1001 d) 1008 0 ≡ get_or m 1008 0
  before_last = placed_other true m 1001 1008 d (λ i h k. omega arith)

  module _ (room : 1010 ≤ length m) (even : length m % 2 ≡ 0) where
    back : gathered true (placed true m 1001 d) 1001 8 ≡ d
    back = rw e at (gathered_placed true m 1001 d (omega arith) even)

    pub first : get_or (placed true m 1001 d) 1000 0 ≡ get_or d 0 0
    first = sym (gathered_byte true (placed true m 1001 d) 1001 0 8 (omega arith)) ∙ ap (λ (l : List ℕ). get_or l 0 0) back

    pub last : get_or (placed true m 1001 d) 1009 0 ≡ get_or d 7 0
    last = sym (gathered_byte true (placed true m 1001 d) 1001 7 8 (omega arith)) ∙ ap (λ (l : List ℕ). get_or l 7 0) back
