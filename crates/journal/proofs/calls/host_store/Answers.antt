-- `host_store` meets its contract: refusals 1 to 5, else the step.
use mathlib.Core.Path.{refl, sym}
use Rattle.std.proofs.lemmas.Result.{err_from_is_err_and}
use Rattle.steps.proofs.Outs.{guarded_goes, guarded_stops}
use Rattle.steps.proofs.Called.{store_stops, store_takes}
use Rattle.steps.proofs.Readies.{host_ready}
use Rattle.unit.specs.Steps.{step_of}
use Rattle.worlds.specs.Calls.{step_on}
use Rattle.journal.proofs.calls.host_store.Goals as goal

pub returns-in_err-check : goal.returns-in_err-check
unfolding step_on
returns-in_err-check c = let p = err_from_is_err_and c.from_residual.result c.from_residual.ensures.1 in rw (p.1, p.2) (guarded_stops _ _ _ _ _ _ _ _ (sym c.in_err-check.ensures))

pub returns-then-store_wrong : goal.returns-then-store_wrong
unfolding step_on step_of
returns-then-store_wrong c = guarded_goes _ _ _ _ _ _ _ _ _ _ _ _ (sym c.in_ok-check.ensures) (store_stops _ _ _ _ _ _ _ _ _ c.store_wrong.ensures _ c.if-store_wrong.true refl refl)

pub host_step-requires : goal.host_step-requires
host_step-requires c = host_ready _ _ _ _ _ _ _ (sym c.in_ok-check.ensures) c.store_wrong.ensures c.if-store_wrong.false

pub returns : goal.returns
unfolding step_on step_of
returns c = guarded_goes _ _ _ _ _ _ _ _ _ _ _ _ (sym c.in_ok-check.ensures) (store_takes _ _ _ _ _ _ _ _ _ c.store_wrong.ensures _ _ _ _ _ c.if-store_wrong.false c.host_step.ensures)
