-- `record_turn` meets its contract.
use Rattle.moves.specs.Spacing.{record_turn}
use Rattle.moves.proofs.spacing.Onward.record_turn.Goals as goal

pub returns : goal.returns
unfolding record_turn
returns c = rw c.after_record-left.ensures
