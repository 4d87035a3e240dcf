-- `rest_zero` meets its contract.
use Rattle.stateblock.specs.Block.{rest_zero}
use borrow.Author.Rules.{rules}
use Rattle.stateblock.proofs.encoding.rest_zero.Goals as goal

pub returns : goal.returns
unfolding rest_zero
returns c = search rules
