-- `turn_over` meets its contract: an arm for each thing found.
use Rattle.moves.specs.Spacing.{turn_of}
use Rattle.moves.proofs.spacing.Onward.turn_over.Goals as goal

pub returns-in-Record : goal.returns-in-Record
unfolding turn_of
returns-in-Record c = rw c.in-Record.is c.record_turn.ensures

pub returns-in-Mark : goal.returns-in-Mark
unfolding turn_of
returns-in-Mark c = rw c.in-Mark.is c.mark_turn.ensures

pub returns-in-Nothing : goal.returns-in-Nothing
unfolding turn_of
returns-in-Nothing c = rw c.in-Nothing.is
