-- Each command has one code and one mode: the paper's table, read back.
use Rattle.std.proofs.Common.{◌≡◌, ℕ, Option, Some, None, refl}
use borrow.Author.Tests.{eqb-true}
use lib.Dec.{eqb}
use Rattle.lists.specs.Pick.{Always, pick}
use Rattle.lists.proofs.Cases.{pick_told}
use Rattle.signals.specs.Codes.{code_of, command_of, control_mode, format_mode, mode_of, position_mode, read_mode, single_mode, write_mode}
use Rattle.signals.specs.declared.codes.Command.{Command}
use Rattle.signals.specs.declared.codes.Command.TheVariants as command

-- a line of the table: this code and this mode are the command's own, if there is one
abbrev Line : ℕ → ℕ → Option Command → Type 0
Line code mode None = Always
Line code mode (Some c) = (code ≡ code_of c) × (mode ≡ mode_of c)

module _ (mode : ℕ) where
  -- a mode that is the command's, or else the rest of the line
  at : (code n : ℕ) (c : Command) (rest : Option Command) → code ≡ code_of c → n ≡ mode_of c → Line code mode rest → Line code mode (pick (eqb mode n) (Some c) rest)
  at code n c rest e f l = pick_told (Line code mode) (eqb mode n) (Some c) rest (λ t. (e, rw f at (eqb-true mode n t))) (λ t. l)

  reads : Line 1 mode (read_mode mode)
  unfolding read_mode
  reads = at 1 0 _ _ refl refl (at 1 1 _ _ refl refl (at 1 2 _ _ refl refl (at 1 3 _ _ refl refl tt)))

  singles : (c : Command) → 0 ≡ mode_of c → Line (code_of c) mode (single_mode c mode)
  unfolding single_mode
  singles c e = at (code_of c) 0 c None refl e tt

  writes : Line 5 mode (write_mode mode)
  unfolding write_mode
  writes = at 5 0 _ _ refl refl (at 5 2 _ _ refl refl tt)

  positions : Line 8 mode (position_mode mode)
  unfolding position_mode
  positions = at 8 0 _ _ refl refl (at 8 1 _ _ refl refl (at 8 2 _ _ refl refl (at 8 3 _ _ refl refl (at 8 4 _ _ refl refl tt))))

  formats : Line 9 mode (format_mode mode)
  unfolding format_mode
  formats = at 9 0 _ _ refl refl (at 9 1 _ _ refl refl (at 9 2 _ _ refl refl tt))

  controls : Line 10 mode (control_mode mode)
  unfolding control_mode
  controls = at 10 0 _ _ refl refl (at 10 1 _ _ refl refl (at 10 2 _ _ refl refl tt))

  -- the lines of one code, or else those of the others
  on : (code n : ℕ) (line rest : Option Command) → Line n mode line → Line code mode rest → Line code mode (pick (eqb code n) line rest)
  on code n line rest f l = pick_told (Line code mode) (eqb code n) line rest (λ t. rw (eqb-true code n t) f) (λ t. l)

  lines : (code : ℕ) → Line code mode (command_of code mode)
  unfolding command_of
  lines code =
      on code 1 _ _ reads
      (on code 4 _ _ (singles command.WriteCharacteristics refl)
      (on code 5 _ _ writes
      (on code 8 _ _ positions
      (on code 9 _ _ formats
      (on code 10 _ _ controls
      (on code 11 _ _ (singles command.Initialize refl)
      (on code 15 _ _ (singles command.GetStatus refl) tt)))))))

pub command_codes : (code mode : ℕ) (c : Command) → command_of code mode ≡ Some c → (code ≡ code_of c) × (mode ≡ mode_of c)
command_codes code mode c e = rw e at (lines mode code)
