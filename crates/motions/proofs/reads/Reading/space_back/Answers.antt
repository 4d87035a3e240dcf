-- `space_back` meets its contract: a record goes on, and anything else is the end.
use Rattle.std.proofs.lemmas.Result.{err_from_is_err_and}
use Rattle.motions.specs.Reads.{on_record, space_back_under}
use Rattle.motions.proofs.reads.Reading.space_back.Goals as goal

pub returns-in-Record : goal.returns-in-Record
unfolding space_back_under on_record
returns-in-Record c = rw (← c.stage.ensures, c.in_ok-b.was, c.in-Record.is) c.ended.ensures

pub returns-in-Over : goal.returns-in-Over
unfolding space_back_under on_record
returns-in-Over c = rw (← c.stage.ensures, c.in_ok-b.was, c.in-Over.is)

pub returns-in_err-b : goal.returns-in_err-b
unfolding space_back_under on_record
returns-in_err-b c =
    let p = err_from_is_err_and c.from_residual.result c.from_residual.ensures.1 in
    rw (p.1, p.2, ← c.stage.ensures, c.in_err-b.was)
