-- `coupler_in` is its definition.
use mathlib.Core.Path.{refl}
use Rattle.records.specs.Shares.{coupler_in}
use Rattle.records.proofs.shares.coupler_in.Goals as goal

pub returns : goal.returns
unfolding coupler_in
returns c = refl
