-- What a record and what an object give, by the values that the code has in hand.
use mathlib.Core.Bool.{Bool, true, false, ◌&&◌}
use mathlib.Core.List.{List}
use mathlib.Core.Path.{◌≡◌}
use Prim.Native.Nat.{ℕ, ◌-◌}
use borrow.Author.Tests.{eq-eqb, ne_eqb}
use lib.Dec.{eqb, leb}
use Rattle.tape.specs.Numbers.{pieces_of}
use Rattle.tape.specs.Pass.{ahead, beyond, first_met, lowest, met_by, order_met, passed, passed_under, pieces_met, record_met, record_met_under}
use Rattle.tape.specs.Reading.{class_at}
use Rattle.tape.specs.declared.BlockFault.TheVariants as fault
use Rattle.tape.specs.declared.Block.{Block}
use Rattle.tape.specs.declared.Met.{Met}
use Rattle.tape.specs.declared.Met.TheVariants as met
use Rattle.std.specs.Prelude.{Result, Ok, Err}
use Rattle.tape.specs.declared.Damage.{Damage}
use Rattle.tape.specs.Damage.{damage}
use Rattle.tape.specs.declared.BlockFault.{BlockFault}

module _ (s : List ℕ) (reverse : Bool) (p e n i : ℕ) {m o a : ℕ} (size : m ≡ pieces_of n) (first : o ≡ order_met reverse m 0) (left : a ≡ ahead reverse p e) where
  -- met at another piece than the first due, or cut off by an end
  pub record_cut : {k : ℕ} → (eqb i o && leb m a) ≡ false → k ≡ first_met reverse p → Err (damage fault.Index k) ≡ record_met s reverse p e n i
  unfolding record_met_under
  record_cut t f = rw (← size, ← first, ← left, t, f)

  pub record_due : {l q : ℕ} {r : Result Met Damage} → (eqb i o && leb m a) ≡ true → l ≡ lowest reverse p m → q ≡ beyond reverse p m → r ≡ pieces_met s reverse n l m 1 (m - 1) (met.Record n q) → r ≡ record_met s reverse p e n i
  unfolding record_met_under
  record_due t f g h = rw (← size, ← first, ← left, t, ← f, ← g) h

module _ (s : List ℕ) (reverse : Bool) (p e : ℕ) {a : ℕ} (left : a ≡ ahead reverse p e) where
  pub pass_nothing : a ≡ 0 → Ok met.Nothing ≡ passed s reverse p e
  unfolding passed_under
  pass_nothing z = rw (← left, eq-eqb a 0 z)

  pub pass_met : {k : ℕ} {b : Result Block BlockFault} {r : Result Met Damage} → (a ≡ 0 → ⊥) → k ≡ first_met reverse p → b ≡ class_at s k → r ≡ met_by s reverse p e b → r ≡ passed s reverse p e
  unfolding passed_under
  pass_met z f g h = rw (← left, ne_eqb a 0 z, ← f, ← g) h
