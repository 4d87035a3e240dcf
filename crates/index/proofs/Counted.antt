-- What `marks_at` returns, by the answers that lead there.
use mathlib.Core.Bool.{Bool, true, false}
use mir.Val.{bool_byte}
use mathlib.Core.Path.{◌≡◌, refl}
use mathlib.Core.List.{List}
use Prim.Native.Nat.{ℕ, zero, suc, ◌+◌, ◌-◌, ◌%◌}
use native.Mathlib.Omega.{arith}
use lib.Dec.{eqb}
use Rattle.lists.specs.Fours.{number_limit}
use Rattle.lists.specs.Pick.{pick}
use Rattle.tape.specs.Layout.{mark_kind}
use Rattle.index.specs.Cutting.{kind_at, marks_at}
use Rattle.index.specs.Table.{first_block, marks_before}

-- a test as a number
bit_picked : (b : Bool) → bool_byte b ≡ pick b 1 0
bit_picked true = refl
bit_picked false = refl

module _ (tb s : List ℕ) where
  -- the last place that stays, by its number
  marks_by : (m : ℕ) → (m ≡ 0 → ⊥) → marks_at tb s m ≡ (marks_before tb (m - 1) + pick (eqb (kind_at s (first_block tb (m - 1))) mark_kind) 1 0) % number_limit
  unfolding marks_at
  marks_by zero h = absurd (h refl)
  marks_by (suc i) h =
      let e : suc i - 1 ≡ i = omega arith in
      rw e

  -- the mark that the last of them may be, as the code counts it
  pub mark_counted : (m marks first kind one : ℕ) → (m ≡ 0 → ⊥) → marks ≡ marks_before tb (m - 1) → first ≡ first_block tb (m - 1) → kind ≡ kind_at s first → one ≡ bool_byte (eqb kind mark_kind)
      → (marks + one) % number_limit ≡ marks_at tb s m
  mark_counted m marks first kind one h p q k o = rw (marks_by m h, o, bit_picked (eqb kind mark_kind), k, p, q)
