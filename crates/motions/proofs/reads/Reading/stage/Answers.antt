-- `stage` meets its contract: an arm for each thing found.
use Rattle.std.proofs.lemmas.Result.{err_from_is_err_and}
use Rattle.motions.specs.Reads.{stage_by, stage_of_under}
use Rattle.motions.proofs.reads.Reading.stage.Goals as goal

pub returns-in_err-n : goal.returns-in_err-n
unfolding stage_of_under stage_by
returns-in_err-n c =
    let p = err_from_is_err_and c.from_residual.result c.from_residual.ensures.1 in
    rw (p.1, p.2, ← c.seek.ensures, c.in_err-n.was)

pub returns-in-Record : goal.returns-in-Record
unfolding stage_of_under stage_by
returns-in-Record c = rw (← c.seek.ensures, c.in_ok-n.was, c.in-Record.is)

pub returns-in-Mark : goal.returns-in-Mark
unfolding stage_of_under stage_by
returns-in-Mark c = rw (← c.seek.ensures, c.in_ok-n.was, c.in-Mark.is, c.rest.ensures, c.mark_end.ensures)

pub returns-in-Nothing : goal.returns-in-Nothing
unfolding stage_of_under stage_by
returns-in-Nothing c = rw (← c.seek.ensures, c.in_ok-n.was, c.in-Nothing.is, c.rest-in-Nothing.ensures, c.nothing_end.ensures)
