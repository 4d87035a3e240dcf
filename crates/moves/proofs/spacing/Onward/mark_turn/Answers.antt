-- `mark_turn` meets its contract: what is counted says what a mark does.
use Rattle.moves.proofs.Spaces.{mark_skips}
use Rattle.moves.specs.Spacing.{mark_turn, mark_turn_by}
use Rattle.moves.proofs.spacing.Onward.mark_turn.Goals as goal

pub returns-in-Records : goal.returns-in-Records
unfolding mark_turn mark_turn_by
returns-in-Records c = rw c.in-Records.is

pub returns-in-Marks : goal.returns-in-Marks
returns-in-Marks c = mark_skips _ _ _ c.in-Marks.is c.skip_turn.ensures
