-- `read_one` meets its contract: a record goes on, and anything else is the end.
use Rattle.std.proofs.lemmas.Result.{err_from_is_err_and}
use Rattle.motions.specs.Reads.{on_record, read_one_under}
use Rattle.motions.proofs.reads.read_one.Goals as goal

pub returns-in-Record : goal.returns-in-Record
unfolding read_one_under on_record
returns-in-Record c = rw (← c.stage.ensures, c.in_ok-n.was, c.in-Record.is) c.ended.ensures

pub returns-in-Over : goal.returns-in-Over
unfolding read_one_under on_record
returns-in-Over c = rw (← c.stage.ensures, c.in_ok-n.was, c.in-Over.is)

pub returns-in_err-n : goal.returns-in_err-n
unfolding read_one_under on_record
returns-in_err-n c =
    let p = err_from_is_err_and c.from_residual.result c.from_residual.ensures.1 in
    rw (p.1, p.2, ← c.stage.ensures, c.in_err-n.was)
