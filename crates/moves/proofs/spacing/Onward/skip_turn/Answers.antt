-- `skip_turn` meets its contract.
use Rattle.moves.specs.Spacing.{skip_turn}
use Rattle.moves.proofs.spacing.Onward.skip_turn.Goals as goal

pub returns-then-self : goal.returns-then-self
unfolding skip_turn
returns-then-self c = rw c.if-self.true

pub returns : goal.returns
unfolding skip_turn
returns c = rw c.if-self.false
