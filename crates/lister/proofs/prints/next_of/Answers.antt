-- `next_of` meets its contract: each variant says where the next object is met.
use Rattle.lister.specs.Listed.{met_next}
use Rattle.lister.proofs.prints.next_of.Goals as goal

pub returns-in-Ok-Record : goal.returns-in-Ok-Record
unfolding met_next
returns-in-Ok-Record c = rw (c.in-Ok-Record.is, rw c.in-Ok-Record.is at c.in-Ok-Record.field-0-is)

pub returns-in-Ok-Mark : goal.returns-in-Ok-Mark
unfolding met_next
returns-in-Ok-Mark c = rw (c.in-Ok-Mark.is, rw c.in-Ok-Mark.is at c.in-Ok-Mark.field-0-is)

pub returns-in-Ok-Gap : goal.returns-in-Ok-Gap
unfolding met_next
returns-in-Ok-Gap c = rw (c.in-Ok-Gap.is, rw c.in-Ok-Gap.is at c.in-Ok-Gap.field-0-is)

pub returns-in-Ok-Nothing : goal.returns-in-Ok-Nothing
unfolding met_next
returns-in-Ok-Nothing c = rw (c.in-Ok-Nothing.is, rw c.in-Ok-Nothing.is at c.in-Ok-Nothing.field-0-is)

pub returns-in-Err : goal.returns-in-Err
unfolding met_next
returns-in-Err c = rw c.in-Err.is
