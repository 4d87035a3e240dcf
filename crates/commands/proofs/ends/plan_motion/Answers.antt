-- `plan_motion` meets its contract: an arm for an end and one for a fault.
use Rattle.commands.specs.Ends.{motion_plan_under}
use Rattle.commands.proofs.ends.plan_motion.Goals as goal

pub returns-in-Ok : goal.returns-in-Ok
unfolding motion_plan_under
returns-in-Ok c = rw c.in-Ok.is c.tell.ensures

pub returns-in-Err : goal.returns-in-Err
unfolding motion_plan_under
returns-in-Err c = rw c.in-Err.is c.still_plan.ensures
