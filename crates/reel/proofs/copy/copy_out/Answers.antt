-- `copy_out` meets its contract. So far the first `done` bytes are in their places.
use borrow.Author.Rules.{rules}
use native.Mathlib.Omega.{arith}
use Rattle.lists.specs.Places.{placed}
use Rattle.reel.proofs.Moved.{copy_more}
use Rattle.reel.proofs.copy.copy_out.Goals as goal

pub loop-done-init : goal.loop-done-init
unfolding placed
loop-done-init c = search rules

pub loop-done-preserved : goal.loop-done-preserved
loop-done-preserved c =
    let on = c.loop-done in
    let mem = copy_more _ _ _ _ _ _ _ _ _ on.done _ (omega arith) (omega arith) (omega arith) on.invariant.1 c.scatter.ensures in
    (search rules, mem, search rules)
