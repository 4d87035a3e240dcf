-- `position` meets its contract.
use Rattle.motions.specs.Spaces.{positioned_under, space_motion}
use Rattle.motions.proofs.spaces.position.Goals as goal

pub returns-then-none_left : goal.returns-then-none_left
unfolding positioned_under
returns-then-none_left c = rw (← c.none_left.ensures, c.if-none_left.true, c.rest.ensures, c.residual_of-residual.ensures)

pub returns-in-Ok : goal.returns-in-Ok
unfolding positioned_under
returns-in-Ok c = rw (← c.none_left.ensures, c.if-none_left.false, ← c.space.ensures, c.in-Ok.is) c.space_motion.ensures

pub returns-in-Err : goal.returns-in-Err
unfolding positioned_under space_motion
returns-in-Err c = rw (← c.none_left.ensures, c.if-none_left.false, ← c.space.ensures, c.in-Err.is)
