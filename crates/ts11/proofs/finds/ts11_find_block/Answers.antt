-- `ts11_find_block` meets its contract: what was found is told as number, flag and place.
use Rattle.worlds.specs.Calls.{block_on}
use Rattle.worlds.specs.declared.Session.{Session}
use Rattle.ts11.proofs.Ways.{finds, finds_none, not_looked, was_looked}
use Rattle.ts11.specs.Finds.{block_given}
use Rattle.ts11.proofs.finds.ts11_find_block.Goals as goal

pub returns-then-not-block_right : goal.returns-then-not-block_right
unfolding block_given
returns-then-not-block_right c = not_looked _ _ _ c.block_right.ensures c.if-not-block_right.true c.number.ensures

pub returns-in-Ok : goal.returns-in-Ok
unfolding block_given
returns-in-Ok c = was_looked (λ (s : Session). block_on s c.args.table.now c.args.block) _ _ _ _ c.block_right.ensures c.if-not-block_right.false c.session_in.ensures c.block_place.ensures (finds c.in-Ok.is c.is_some.ensures c.unwrap_or.ensures)

pub returns-in-Err : goal.returns-in-Err
unfolding block_given
returns-in-Err c = was_looked (λ (s : Session). block_on s c.args.table.now c.args.block) _ _ _ _ c.block_right.ensures c.if-not-block_right.false c.session_in.ensures c.block_place.ensures (finds_none c.in-Err.is c.number-in-Err.ensures)
