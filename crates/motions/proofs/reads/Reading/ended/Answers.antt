-- `ended` meets its contract.
use Rattle.motions.specs.Reads.{read_motion}
use Rattle.motions.proofs.reads.Reading.ended.Goals as goal

pub returns : goal.returns
unfolding read_motion
returns c = rw (c.rest.ensures, c.first_block-first.ensures, c.read_end-end.ensures)
