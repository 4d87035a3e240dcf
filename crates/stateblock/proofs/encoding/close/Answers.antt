-- `close` meets its contract: a step's session is written over the block, any other answer leaves it.
use mathlib.Core.Path.{◌≡◌}
use lib.ListN.{length}
use Rattle.stateblock.specs.Block.{block_after, state_length}
use Rattle.stateblock.proofs.Written.{written}
use borrow.Author.Rules.{rules}
use Rattle.stateblock.proofs.encoding.close.Goals as goal

pub returns-in-Step : goal.returns-in-Step
unfolding block_after
returns-in-Step c =
    let l : length c.args.b.now ≡ state_length = search rules in
    rw (c.in-Ok.is, c.in-Step.is) (written _ _ _ _ _ _ l c.entry_with.ensures c.numbers_of.ensures c.put_head.ensures c.put_number.ensures)

pub returns-in-Idle : goal.returns-in-Idle
unfolding block_after
returns-in-Idle c = rw (c.in-Ok.is, c.in-Idle.is)

pub returns-in-Err : goal.returns-in-Err
unfolding block_after
returns-in-Err c = rw c.in-Err.is
