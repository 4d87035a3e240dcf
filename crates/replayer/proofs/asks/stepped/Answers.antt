-- `stepped` tells what the call told.
use Rattle.replayer.proofs.asks.stepped.Goals as goal

pub returns-in-Ok : goal.returns-in-Ok
returns-in-Ok c = λ s. rw c.in-Ok.is

pub returns-in-Err : goal.returns-in-Err
returns-in-Err c = λ s. rw c.in-Err.is
