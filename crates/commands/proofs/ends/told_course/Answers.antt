-- `told_course` meets its contract: by computing.
use mathlib.Core.Path.{refl}
use Rattle.commands.specs.Ends.{plan_by_under, plan_of_under}
use Rattle.commands.proofs.ends.told_course.Goals as goal

pub returns : goal.returns
unfolding plan_of_under plan_by_under
returns c = refl
