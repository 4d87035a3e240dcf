-- `block_in` is its definition.
use Rattle.state.specs.Refusals.{block_of}
use Rattle.state.proofs.Behind.{by_other}
use Rattle.ts11.proofs.calls.block_in.Goals as goal

pub returns-in-BadBlock : goal.returns-in-BadBlock
unfolding block_of
returns-in-BadBlock c = rw c.in-BadBlock.is

pub returns-in_default : goal.returns-in_default
unfolding block_of
returns-in_default c = by_other (λ why k. k) 0 _ c.in_default.not-BadBlock
