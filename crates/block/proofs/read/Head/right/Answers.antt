-- `Head::right` meets its contract: its three answers joined.
use Rattle.block.specs.Halves.{head_right}
use Rattle.block.proofs.read.Head.right.Goals as goal

pub returns : goal.returns
unfolding head_right
returns c = cc
