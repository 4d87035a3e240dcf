-- `wipe` meets its contract.
use Rattle.script.proofs.Filled.{wipe_none, wipe_zeros}
use Rattle.script.proofs.fills.wipe.Goals as goal

pub returns-then-from-to : goal.returns-then-from-to
returns-then-from-to c = wipe_zeros _ _ _ _ c.if-from-to.true (c.fill.ensures.after (λ y e. e))

pub returns-else-from-to : goal.returns-else-from-to
returns-else-from-to c = wipe_none _ _ _ c.if-from-to.false
