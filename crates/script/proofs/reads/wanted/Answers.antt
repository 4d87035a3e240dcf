-- `wanted` meets its contract.
use Rattle.script.proofs.Said.{beyond_last, up_to_last}
use Rattle.script.proofs.reads.wanted.Goals as goal

pub returns-then-last-k : goal.returns-then-last-k
returns-then-last-k c = beyond_last _ _ _ c.if-last-k.true

pub returns : goal.returns
returns c = up_to_last _ _ _ _ c.if-last-k.false c.argument.ensures
