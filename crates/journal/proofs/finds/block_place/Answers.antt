-- `block_place` is its definition.
use Rattle.std.proofs.lemmas.Result.{err_from_is_err_and}
use Rattle.worlds.specs.Calls.{block_on}
use Rattle.journal.proofs.finds.block_place.Goals as goal

pub returns-in_err-check_table : goal.returns-in_err-check_table
unfolding block_on
returns-in_err-check_table c = let p = err_from_is_err_and c.from_residual.result c.from_residual.ensures.1 in rw (p.1, p.2, ← c.in_err-check_table.ensures)

pub returns : goal.returns
unfolding block_on
returns c = rw (← c.in_ok-check_table.ensures, ← c.find_block.ensures)
