-- `digit` meets its contract.
use Rattle.script.proofs.Said.{digit_is}
use Rattle.script.proofs.reads.digit.Goals as goal

pub returns-clause-is : goal.returns-clause-is
returns-clause-is c = digit_is c.args.b _ _ c.from.ensures c.to_digit.ensures.value
