-- `state_seat_wrong` is its definition, by the call that looks at the state.
use Rattle.worlds.specs.Rows.{state_seat_wrong}
use Rattle.worlds.proofs.rows.state_seat_wrong.Goals as goal

pub returns : goal.returns
unfolding state_seat_wrong
returns c = rw (c.state_wrong.ensures, c.unit_over.ensures)
