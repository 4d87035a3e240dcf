-- `no_room` meets its contract.
use Rattle.motions.specs.Writes.{no_room}
use Rattle.motions.proofs.writes.no_room.Goals as goal

pub returns : goal.returns
unfolding no_room
returns c = rw c.rest.ensures
