-- `session_over` is its definition, by the call that makes the unit.
use Rattle.worlds.proofs.rows.session_over.Goals as goal

pub returns : goal.returns
returns c = rw c.unit_over.ensures
