-- `behind_gap` meets its contract.
use mathlib.Core.Path.{refl}
use Rattle.motions.specs.Writes.{behind_gap}
use Rattle.motions.proofs.writes.behind_gap.Goals as goal

pub returns : goal.returns
unfolding behind_gap
returns c = refl
