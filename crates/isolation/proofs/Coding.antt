-- Only code 4 gives Write Characteristics: the one command that is planned by what its data are.
use mathlib.Core.Bool.{Bool, true, false, true≢false}
use mathlib.Core.Path.{◌≡◌, refl, sym, ◌∙◌}
use Prim.Native.Nat.{ℕ}
use borrow.Author.Tests.{eqb-true}
use denote.Enum.Declared.{tag_of}
use lib.Dec.{eqb}
use Rattle.std.specs.Prelude.{Option, Some, None}
use Rattle.lists.proofs.Cases.{by_test}
use Rattle.signals.specs.Codes.{command_of, control_mode, format_mode, position_mode, read_mode, single_mode, write_mode}
use Rattle.signals.specs.declared.codes.Command.{Command}
use Rattle.signals.specs.declared.codes.Command.TheVariants as command
use Rattle.signals.specs.contracts.codes.Command as variants
use Rattle.state.proofs.Tests.{either}

-- is it a Write Characteristics?
abbrev pub characterizes : Option Command → Bool
characterizes None = false
characterizes (Some c) = eqb (tag_of variants.the_type c) 4

abbrev Other : Option Command → Type 0
Other c = characterizes c ≡ false

reads : (mode : ℕ) → Other (read_mode mode)
unfolding read_mode
reads mode = either Other (eqb mode 0) _ _ refl (either Other (eqb mode 1) _ _ refl (either Other (eqb mode 2) _ _ refl (either Other (eqb mode 3) _ _ refl refl)))

writes : (mode : ℕ) → Other (write_mode mode)
unfolding write_mode
writes mode = either Other (eqb mode 0) _ _ refl (either Other (eqb mode 2) _ _ refl refl)

positions : (mode : ℕ) → Other (position_mode mode)
unfolding position_mode
positions mode = either Other (eqb mode 0) _ _ refl (either Other (eqb mode 1) _ _ refl (either Other (eqb mode 2) _ _ refl (either Other (eqb mode 3) _ _ refl (either Other (eqb mode 4) _ _ refl refl))))

formats : (mode : ℕ) → Other (format_mode mode)
unfolding format_mode
formats mode = either Other (eqb mode 0) _ _ refl (either Other (eqb mode 1) _ _ refl (either Other (eqb mode 2) _ _ refl refl))

controls : (mode : ℕ) → Other (control_mode mode)
unfolding control_mode
controls mode = either Other (eqb mode 0) _ _ refl (either Other (eqb mode 1) _ _ refl (either Other (eqb mode 2) _ _ refl refl))

singles : (c : Command) (mode : ℕ) → Other (Some c) → Other (single_mode c mode)
unfolding single_mode
singles c mode h = either Other (eqb mode 0) (Some c) None h refl

others : (code mode : ℕ) → eqb code 4 ≡ false → Other (command_of code mode)
unfolding command_of
others code mode four =
    rw four
    (either Other (eqb code 1) _ _ (reads mode)
    (either Other (eqb code 5) _ _ (writes mode)
    (either Other (eqb code 8) _ _ (positions mode)
    (either Other (eqb code 9) _ _ (formats mode)
    (either Other (eqb code 10) _ _ (controls mode)
    (either Other (eqb code 11) _ _ (singles command.Initialize mode refl)
    (either Other (eqb code 15) _ _ (singles command.GetStatus mode refl) refl)))))))

pub code_four : (code mode : ℕ) → characterizes (command_of code mode) ≡ true → code ≡ 4
code_four code mode h = by_test (eqb code 4) (λ t. eqb-true code 4 t) (λ t. absurd (true≢false (sym h ∙ others code mode t)))
