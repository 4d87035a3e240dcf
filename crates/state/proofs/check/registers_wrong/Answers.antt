-- `registers_wrong` meets its contract: it is the definition.
use borrow.Author.Rules.{rules}
use Rattle.state.specs.Checks.{registers_wrong}
use Rattle.state.proofs.check.registers_wrong.Goals as goal

pub returns : goal.returns
unfolding registers_wrong
returns c = search rules
