-- `host_store` meets its contract: refusals 1, 2, 4 and 5, else the step.
use mathlib.Core.Path.{sym}
use Rattle.std.proofs.lemmas.Result.{err_from_is_err_and}
use Rattle.coupler.proofs.Hosting.{host_goes, host_outside, host_ready, host_stops}
use Rattle.coupler.proofs.stores.host_store.Goals as goal

pub returns-in_err-coupler_check : goal.returns-in_err-coupler_check
returns-in_err-coupler_check c = let p = err_from_is_err_and c.from_residual.result c.from_residual.ensures.1 in rw (p.1, p.2) (host_stops _ c.args.mem.now c.args.jrnl.now _ c.args.bytes.now _ (sym c.in_err-coupler_check.ensures))

pub returns-then-store_wrong : goal.returns-then-store_wrong
returns-then-store_wrong c = host_outside _ c.args.mem.now c.args.jrnl.now _ c.args.bytes.now (sym c.in_ok-coupler_check.ensures) _ c.store_wrong.ensures c.if-store_wrong.true

pub store_step-requires : goal.store_step-requires
store_step-requires c = host_ready _ c.args.mem.now c.args.jrnl.now _ c.args.bytes.now (sym c.in_ok-coupler_check.ensures) _ c.store_wrong.ensures c.if-store_wrong.false

pub returns : goal.returns
returns c = host_goes _ c.args.mem.now c.args.jrnl.now _ c.args.bytes.now (sym c.in_ok-coupler_check.ensures) _ c.store_wrong.ensures _ _ _ c.if-store_wrong.false c.store_step.ensures
