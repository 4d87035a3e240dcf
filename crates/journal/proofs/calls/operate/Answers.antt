-- `operate` meets its contract: its refusals, else the change.
use mathlib.Core.Path.{sym}
use Rattle.std.proofs.lemmas.Result.{err_from_is_err_and}
use Rattle.steps.proofs.Changing.{change_goes, change_stops}
use Rattle.unit.specs.Steps.{step_of}
use Rattle.worlds.specs.Calls.{step_on}
use Rattle.journal.proofs.calls.operate.Goals as goal

pub returns-in_err-check_change : goal.returns-in_err-check_change
unfolding step_on step_of
returns-in_err-check_change c = let p = err_from_is_err_and c.from_residual.result c.from_residual.ensures.1 in rw (p.1, p.2) (change_stops _ _ _ _ _ _ _ _ (sym c.in_err-check_change.ensures))

pub change-requires : goal.change-requires
change-requires c = sym c.in_ok-check_change.ensures

pub returns : goal.returns
unfolding step_on step_of
returns c = change_goes _ _ _ _ _ _ _ _ _ _ _ _ _ (sym c.in_ok-check_change.ensures) c.operate.ensures c.change.ensures
