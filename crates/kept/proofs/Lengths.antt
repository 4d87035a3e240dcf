-- Step 9 shows that a Write asks for a record of an allowed length: only code 5 gives a Write.
use mathlib.Core.Bool.{true, false}
use mathlib.Core.Path.{◌≡◌}
use Prim.Native.Nat.{ℕ, ◌≤◌}
use native.Mathlib.Omega.{arith}
use borrow.Author.Tests.{eqb-false, ltb-false}
use lib.Dec.{eqb, ltb}
use Rattle.std.specs.Prelude.{Option, Some}
use Rattle.lists.proofs.Cases.{pick_told}
use Rattle.tape.specs.Numbers.{record_limit}
use Rattle.signals.specs.Codes.{command_of, control_mode, format_mode, position_mode, read_mode, single_mode, write_mode}
use Rattle.signals.specs.declared.codes.Command.{Command}
use Rattle.signals.specs.declared.packet.Header.{Header}
use Rattle.state.proofs.Tests.{either, neither}
use Rattle.advance.specs.Rules.{length_wrong}
use Rattle.kept.proofs.Carrying.{RightCount}

module _ (n : ℕ) where
  abbrev Right : Option Command → Type 0
  Right c = RightCount c n

  reads : (mode : ℕ) → Right (read_mode mode)
  unfolding read_mode
  reads mode = either Right (eqb mode 0) _ _ tt (either Right (eqb mode 1) _ _ tt (either Right (eqb mode 2) _ _ tt (either Right (eqb mode 3) _ _ tt tt)))

  writes : (mode : ℕ) → (1 ≤ n) × (n ≤ record_limit) → Right (write_mode mode)
  unfolding write_mode
  writes mode r = either Right (eqb mode 0) _ _ r (either Right (eqb mode 2) _ _ r tt)

  positions : (mode : ℕ) → Right (position_mode mode)
  unfolding position_mode
  positions mode = either Right (eqb mode 0) _ _ tt (either Right (eqb mode 1) _ _ tt (either Right (eqb mode 2) _ _ tt (either Right (eqb mode 3) _ _ tt (either Right (eqb mode 4) _ _ tt tt))))

  formats : (mode : ℕ) → Right (format_mode mode)
  unfolding format_mode
  formats mode = either Right (eqb mode 0) _ _ tt (either Right (eqb mode 1) _ _ tt (either Right (eqb mode 2) _ _ tt tt))

  controls : (mode : ℕ) → Right (control_mode mode)
  unfolding control_mode
  controls mode = either Right (eqb mode 0) _ _ tt (either Right (eqb mode 1) _ _ tt (either Right (eqb mode 2) _ _ tt tt))

  singles : (c : Command) (mode : ℕ) → Right (Some c) → Right (single_mode c mode)
  unfolding single_mode
  singles c mode r = either Right (eqb mode 0) (Some c) _ r tt

  only_five : (code mode : ℕ) → (eqb code 5 ≡ true → (1 ≤ n) × (n ≤ record_limit)) → Right (command_of code mode)
  unfolding command_of
  only_five code mode r =
      either Right (eqb code 1) _ _ (reads mode)
      (either Right (eqb code 4) _ _ (singles _ mode tt)
      (pick_told Right (eqb code 5) _ _ (λ e. writes mode (r e)) (λ e.
      either Right (eqb code 8) _ _ (positions mode)
      (either Right (eqb code 9) _ _ (formats mode)
      (either Right (eqb code 10) _ _ (controls mode)
      (either Right (eqb code 11) _ _ (singles _ mode tt)
      (either Right (eqb code 15) _ _ (singles _ mode tt) tt)))))))

pub right_count : (h : Header) (n : ℕ) → length_wrong h n ≡ false → RightCount (command_of h.code h.mode) n
right_count h n f =
    only_five n h.code h.mode
    (λ e.
    let p = neither (eqb n 0) (ltb record_limit n) (rw e at f) in
    let some : n ≡ 0 → ⊥ = eqb-false n 0 p.0 in
    (omega arith, ltb-false record_limit n p.1))
