-- `flags_right` is its definition.
use borrow.Author.Rules.{rules}
use Rattle.entries.specs.Numbers.{flags_right}
use Rattle.entries.proofs.numbers.flags_right.Goals as goal

pub returns : goal.returns
unfolding flags_right
returns g c = search rules
