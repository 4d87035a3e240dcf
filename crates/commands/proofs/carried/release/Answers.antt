-- `release` meets its contract: an end that is not told, of the unit with its IE.
use mathlib.Core.Path.{refl}
use Rattle.commands.specs.Commands.{released}
use Rattle.commands.specs.Ends.{plan_by_under, plan_of_under}
use Rattle.commands.proofs.carried.release.Goals as goal

pub returns : goal.returns
unfolding released plan_of_under plan_by_under
returns c = refl
