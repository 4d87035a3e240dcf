-- `read_block` meets its contract: block k of the slice is the block that the definition names.
use Rattle.block.proofs.Classes.{class_inside, class_outside}
use Rattle.block.proofs.read.read_block.Goals as goal

pub returns-then-blocks-k : goal.returns-then-blocks-k
returns-then-blocks-k c = class_outside c.args.reel.now c.args.k _ c.as_chunks.ensures.front_len c.if-blocks-k.true

pub returns : goal.returns
returns c = class_inside c.args.reel.now c.args.k _ c.as_chunks.ensures.front_len c.as_chunks.ensures.front c.if-blocks-k.false c.class_of.ensures
