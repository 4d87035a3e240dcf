-- `step_back` meets its contract: refusals 1 to 4, 6 and 8, else the undoing.
use mathlib.Core.Path.{sym}
use Rattle.std.proofs.lemmas.Result.{err_from_is_err_and}
use Rattle.steps.proofs.Backs.{back_goes, back_none, back_short}
use Rattle.steps.proofs.Outs.{guarded_stops}
use Rattle.worlds.specs.Calls.{back_on}
use Rattle.journal.proofs.calls.step_back.Goals as goal

pub returns-in_err-check : goal.returns-in_err-check
unfolding back_on
returns-in_err-check c = let p = err_from_is_err_and c.from_residual.result c.from_residual.ensures.1 in rw (p.1, p.2) (guarded_stops _ _ _ _ _ _ _ _ (sym c.in_err-check.ensures))

pub returns-then-s-eq0 : goal.returns-then-s-eq0
returns-then-s-eq0 c = back_none _ _ _ _ _ _ (sym c.in_ok-check.ensures) c.if-s-eq0.true

pub returns-then-s-lt-BARE : goal.returns-then-s-lt-BARE
returns-then-s-lt-BARE c = back_short _ _ _ _ _ _ (sym c.in_ok-check.ensures) c.if-s-eq0.false c.if-s-lt-BARE.true

pub undo-requires : goal.undo-requires
undo-requires c = record { sound = record { right = sym c.in_ok-check.ensures }; bare = c.if-s-lt-BARE.false }

pub returns : goal.returns
returns c = back_goes _ _ _ _ _ _ (sym c.in_ok-check.ensures) _ _ _ _ _ c.if-s-eq0.false c.if-s-lt-BARE.false (c.undo.ensures 0)
