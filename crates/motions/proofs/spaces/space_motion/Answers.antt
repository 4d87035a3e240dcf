-- `space_motion` meets its contract.
use Rattle.motions.specs.Spaces.{space_motion, space_motion_by}
use Rattle.motions.proofs.spaces.space_motion.Goals as goal

pub returns : goal.returns
unfolding space_motion space_motion_by
returns c = rw (c.rest.ensures, c.space_end-end.ensures)
