-- `entry_with` meets its contract.
use Rattle.stateblock.specs.Block.{entry_with}
use borrow.Author.Rules.{rules}
use Rattle.stateblock.proofs.encoding.entry_with.Goals as goal

pub returns : goal.returns
unfolding entry_with
returns c = search rules
