-- `session_in` meets its contract: the block's numbers, read as a session.
use Rattle.stateblock.specs.Block.{session_in}
use Rattle.stateblock.proofs.encoding.session_in.Goals as goal

pub returns : goal.returns
unfolding session_in
returns c = rw (c.session_with.ensures, c.entry_of.ensures, c.head_at.ensures)
