-- `lay_mark` meets its contract: a mark is a block with no data.
use borrow.Author.Rules.{rules}
use Rattle.tape.specs.Objects.{image_of}
use Rattle.reel.proofs.lay.lay_mark.Goals as goal

pub returns : goal.returns
unfolding image_of
returns c = search rules
