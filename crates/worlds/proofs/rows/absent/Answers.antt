-- `absent` is its definition.
use borrow.Author.Rules.{rules}
use Rattle.worlds.specs.Rows.{absent_in}
use Rattle.worlds.proofs.rows.absent.Goals as goal

pub returns : goal.returns
unfolding absent_in
returns c = search rules
