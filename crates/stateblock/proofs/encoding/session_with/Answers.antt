-- `session_with` meets its contract.
use Rattle.stateblock.specs.Block.{session_with}
use borrow.Author.Rules.{rules}
use Rattle.stateblock.proofs.encoding.session_with.Goals as goal

pub returns : goal.returns
unfolding session_with
returns c = search rules
