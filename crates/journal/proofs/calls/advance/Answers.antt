-- `advance` meets its contract: a step for an answer of 0, else nothing changes.
use mathlib.Core.Path.{refl, sym, ap, ◌∙◌}
use Rattle.std.specs.Prelude.{Ok}
use Rattle.std.proofs.lemmas.Result.{err_from_is_err_and}
use Rattle.steps.proofs.Outs.{guarded_goes, guarded_stops}
use Rattle.steps.proofs.Called.{advance_rests, advance_takes}
use Rattle.steps.proofs.Readies.{advance_ready}
use Rattle.worlds.specs.Worlds.{world_of}
use Rattle.worlds.specs.Calls.{step_on, taken_by}
use Rattle.worlds.proofs.Passing.{passed, plannable}
use Rattle.journal.proofs.calls.advance.Goals as goal

pub returns-in_err-check : goal.returns-in_err-check
unfolding step_on
returns-in_err-check c = let p = err_from_is_err_and c.from_residual.result c.from_residual.ensures.1 in rw (p.1, p.2) (guarded_stops _ _ _ _ _ _ _ _ (sym c.in_err-check.ensures))

pub plan_advance-p-requires : goal.plan_advance-p-requires
plan_advance-p-requires c = plannable (world_of c.args.k c.args.s c.args.mem.now c.args.reel.now c.args.table.now c.args.jrnl.now) _ (passed _ _ _ _ (sym c.in_ok-check.ensures))

pub returns-in_err-interrupts : goal.returns-in_err-interrupts
unfolding step_on taken_by
returns-in_err-interrupts c =
    let p = err_from_is_err_and c.from_residual-in_err-interrupts.result c.from_residual-in_err-interrupts.ensures.1 in
    rw (p.1, p.2) (guarded_goes _ _ _ _ _ _ _ _ _ _ _ _ (sym c.in_ok-check.ensures) (advance_rests _ _ _ _ _ _ _ c.plan_advance-p.ensures _ c.in_err-interrupts.was refl))

pub step-requires : goal.step-requires
step-requires c = advance_ready _ _ c.args.mem.now c.args.reel.now _ (sym c.in_ok-check.ensures) c.plan_advance-p.ensures

pub returns-in-Step : goal.returns-in-Step
unfolding step_on
returns-in-Step c = guarded_goes _ _ _ _ _ _ _ _ _ _ _ _ (sym c.in_ok-check.ensures) (advance_takes _ _ _ _ _ _ _ c.plan_advance-p.ensures _ _ _ _ _ _ (c.in_ok-interrupts.was ∙ ap Ok c.in-Step.is) c.step.ensures)

pub returns-in-Idle : goal.returns-in-Idle
unfolding step_on taken_by
returns-in-Idle c = guarded_goes _ _ _ _ _ _ _ _ _ _ _ _ (sym c.in_ok-check.ensures) (advance_rests _ _ _ _ _ _ _ c.plan_advance-p.ensures _ (c.in_ok-interrupts.was ∙ ap Ok c.in-Idle.is) refl)
