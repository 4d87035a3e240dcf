-- `unit_in` is its definition.
use mathlib.Core.Path.{refl}
use Rattle.entries.specs.Numbers.{unit_in}
use Rattle.entries.proofs.numbers.unit_in.Goals as goal

pub returns : goal.returns
unfolding unit_in
returns g c = refl
