-- `buffer_wrong` meets its contract: it is the definition, and a sum of two numbers of 32 bits does not wrap.
use borrow.Author.Rules.{rules}
use Rattle.state.specs.Checks.{buffer_wrong}
use Rattle.state.proofs.check.buffer_wrong.Goals as goal

pub returns : goal.returns
unfolding buffer_wrong
returns c = search rules
