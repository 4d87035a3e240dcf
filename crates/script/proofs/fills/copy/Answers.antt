-- `copy` meets its contract.
use Rattle.script.proofs.Filled.{copy_is}
use Rattle.script.proofs.fills.copy.Goals as goal

pub returns : goal.returns
returns c = copy_is _ _ _ _ c.min-n.ensures c.copy_from_slice.ensures.after
