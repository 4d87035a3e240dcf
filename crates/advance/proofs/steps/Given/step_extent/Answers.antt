-- `step_extent` meets its contract: the extent that was looked at is what the next step asks for.
use Rattle.advance.proofs.Extents.{data_fit}
use Rattle.advance.specs.Steps.{step_extent_under}
use Rattle.advance.proofs.steps.Given.step_extent.Goals as goal

pub returns-then-has_extent-overruns : goal.returns-then-has_extent-overruns
unfolding step_extent_under
returns-then-has_extent-overruns c = rw (← c.whole_count.ensures, ← c.reject.ensures, ← c.has_extent.ensures, ← c.overruns.ensures, c.if-has_extent-overruns.true)

pub carry_out-requires : goal.carry_out-requires
carry_out-requires c =
    let inside = rw c.overruns.ensures at c.if-has_extent-overruns.false in
    (c.args.self.recorded, rw c.args.k.known at (data_fit c.args.k.header c.args.p c.args.self.memory.now c.has_extent.result c.has_extent.ensures inside))

pub returns : goal.returns
unfolding step_extent_under
returns c = rw (← c.has_extent.ensures, ← c.overruns.ensures, c.if-has_extent-overruns.false, c.args.k.known) c.carry_out.ensures
