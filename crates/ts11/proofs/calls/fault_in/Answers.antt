-- `fault_in` is its definition.
use Rattle.tape.specs.Letters.{letter_of}
use Rattle.state.specs.Refusals.{fault_of}
use Rattle.state.proofs.Behind.{by_other}
use Rattle.ts11.proofs.calls.fault_in.Goals as goal

pub returns-in-BadBlock : goal.returns-in-BadBlock
unfolding fault_of
returns-in-BadBlock c = rw c.in-BadBlock.is c.letter.ensures

pub returns-in_default : goal.returns-in_default
unfolding fault_of
returns-in_default c = by_other (λ why k. letter_of why) 0 _ c.in_default.not-BadBlock
