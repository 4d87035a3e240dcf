-- `put_met` meets its contract: a line for each variant that is an object, and nothing for the others.
use Rattle.lister.specs.Lines.{number_line}
use Rattle.lister.specs.Listed.{met_line}
use Rattle.lister.proofs.Putting.{put_nothing}
use Rattle.lister.proofs.prints.put_met.Goals as goal

pub returns-in-Ok-Record : goal.returns-in-Ok-Record
unfolding met_line
returns-in-Ok-Record c = rw (c.in-Ok-Record.is, rw c.in-Ok-Record.is at c.in-Ok-Record.field-0-is) c.put_record.ensures

pub returns-in-Ok-Mark : goal.returns-in-Ok-Mark
unfolding met_line number_line
returns-in-Ok-Mark c = rw (c.in-Ok-Mark.is, rw c.in-Ok-Mark.is at c.in-Ok-Mark.field-0-is) c.put_line.ensures

pub returns-in-Ok-Gap : goal.returns-in-Ok-Gap
unfolding met_line number_line
returns-in-Ok-Gap c = rw (c.in-Ok-Gap.is, rw c.in-Ok-Gap.is at c.in-Ok-Gap.field-0-is) c.put_line-in-Ok-Gap.ensures

pub returns-in-Ok-Nothing : goal.returns-in-Ok-Nothing
unfolding met_line
returns-in-Ok-Nothing c = rw (c.in-Ok-Nothing.is, rw c.in-Ok-Nothing.is at c.in-Ok-Nothing.field-0-is) (put_nothing _ _)

pub returns-in-Err : goal.returns-in-Err
unfolding met_line
returns-in-Err c = rw c.in-Err.is (put_nothing _ _)
