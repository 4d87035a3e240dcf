-- `tape_wrong` meets its contract: it is the definition.
use borrow.Author.Rules.{rules}
use Rattle.state.specs.Checks.{tape_wrong}
use Rattle.state.proofs.check.tape_wrong.Goals as goal

pub returns : goal.returns
unfolding tape_wrong
returns c = search rules
