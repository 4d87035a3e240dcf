-- `space_then_read` meets its contract: a record goes on, and anything else is the end.
use Rattle.std.proofs.lemmas.Result.{err_from_is_err_and}
use Rattle.motions.specs.Reads.{on_record, space_then_read_under}
use Rattle.motions.proofs.reads.Reading.space_then_read.Goals as goal

pub returns-in-Record : goal.returns-in-Record
unfolding space_then_read_under on_record
returns-in-Record c = rw (← c.stage.ensures, c.in_ok-q.was, c.in-Record.is) c.read_one.ensures

pub returns-in-Over : goal.returns-in-Over
unfolding space_then_read_under on_record
returns-in-Over c = rw (← c.stage.ensures, c.in_ok-q.was, c.in-Over.is)

pub returns-in_err-q : goal.returns-in_err-q
unfolding space_then_read_under on_record
returns-in_err-q c =
    let p = err_from_is_err_and c.from_residual.result c.from_residual.ensures.1 in
    rw (p.1, p.2, ← c.stage.ensures, c.in_err-q.was)
