-- `ended_unit` meets its contract: three stores to the registers.
use borrow.Author.Rules.{rules}
use Rattle.commands.specs.Ends.{ended}
use Rattle.commands.proofs.ends.ended_unit.Goals as goal

pub returns : goal.returns
unfolding ended
returns c = search rules
