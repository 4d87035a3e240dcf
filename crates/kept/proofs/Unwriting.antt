-- The commands that lay nothing: all but Write and Format.
use mathlib.Core.Bool.{false, true≢false}
use mathlib.Core.Path.{◌≡◌, sym, ◌∙◌}
use Prim.Native.Nat.{ℕ}
use lib.Dec.{eqb}
use Rattle.std.specs.Prelude.{Option, Some, None}
use Rattle.lists.specs.Pick.{Always}
use Rattle.lists.proofs.Cases.{pick_told}
use Rattle.signals.specs.Codes.{command_of, control_mode, position_mode, read_mode, single_mode}
use Rattle.signals.specs.declared.codes.Command.{Command}
use Rattle.signals.specs.declared.codes.Command.TheVariants as command
use Rattle.signals.specs.declared.packet.Header.{Header}
use Rattle.state.proofs.Tests.{either, neither}
use Rattle.advance.specs.Rules.{writes}

abbrev pub Unwriting : Option Command → Type 0
Unwriting (Some command.ReadNext) = Always
Unwriting (Some command.ReadPrevious) = Always
Unwriting (Some command.RereadPrevious) = Always
Unwriting (Some command.RereadNext) = Always
Unwriting (Some command.WriteCharacteristics) = Always
Unwriting (Some command.Write) = ⊥
Unwriting (Some command.WriteRetry) = ⊥
Unwriting (Some command.RecordsForward) = Always
Unwriting (Some command.RecordsReverse) = Always
Unwriting (Some command.MarksForward) = Always
Unwriting (Some command.MarksReverse) = Always
Unwriting (Some command.Rewind) = Always
Unwriting (Some command.WriteMark) = ⊥
Unwriting (Some command.Erase) = ⊥
Unwriting (Some command.MarkRetry) = ⊥
Unwriting (Some command.Release) = Always
Unwriting (Some command.Unload) = Always
Unwriting (Some command.Clean) = Always
Unwriting (Some command.Initialize) = Always
Unwriting (Some command.GetStatus) = Always
Unwriting None = Always

reads : (mode : ℕ) → Unwriting (read_mode mode)
unfolding read_mode
reads mode =
    either Unwriting (eqb mode 0) _ _ tt
    (either Unwriting (eqb mode 1) _ _ tt (either Unwriting (eqb mode 2) _ _ tt (either Unwriting (eqb mode 3) _ _ tt tt)))

positions : (mode : ℕ) → Unwriting (position_mode mode)
unfolding position_mode
positions mode =
    either Unwriting (eqb mode 0) _ _ tt
    (either Unwriting (eqb mode 1) _ _ tt
    (either Unwriting (eqb mode 2) _ _ tt (either Unwriting (eqb mode 3) _ _ tt (either Unwriting (eqb mode 4) _ _ tt tt))))

controls : (mode : ℕ) → Unwriting (control_mode mode)
unfolding control_mode
controls mode = either Unwriting (eqb mode 0) _ _ tt (either Unwriting (eqb mode 1) _ _ tt (either Unwriting (eqb mode 2) _ _ tt tt))

single : (c : Command) (mode : ℕ) → Unwriting (Some c) → Unwriting (single_mode c mode)
unfolding single_mode
single c mode k = either Unwriting (eqb mode 0) (Some c) _ k tt

others : (code mode : ℕ) → eqb code 5 ≡ false → eqb code 9 ≡ false → Unwriting (command_of code mode)
unfolding command_of
others code mode five nine =
    either Unwriting (eqb code 1) _ _ (reads mode)
    (either Unwriting (eqb code 4) _ _ (single command.WriteCharacteristics mode tt)
    (pick_told Unwriting (eqb code 5) _ _ (λ e. absurd (true≢false (sym e ∙ five))) (λ e.
    either Unwriting (eqb code 8) _ _ (positions mode)
    (pick_told Unwriting (eqb code 9) _ _ (λ k. absurd (true≢false (sym k ∙ nine))) (λ k.
    either Unwriting (eqb code 10) _ _ (controls mode)
    (either Unwriting (eqb code 11) _ _ (single command.Initialize mode tt)
    (either Unwriting (eqb code 15) _ _ (single command.GetStatus mode tt) tt)))))))

pub unwriting : (h : Header) → writes h ≡ false → Unwriting (command_of h.code h.mode)
unwriting h w =
    let n = neither (eqb h.code 5) (eqb h.code 9) w in
    others h.code h.mode n.0 n.1
