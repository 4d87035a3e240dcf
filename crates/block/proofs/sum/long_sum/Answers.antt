-- `long_sum` meets its contract. So far the sum is that of the first j runs, and low enough not to wrap.
use borrow.Author.Rules.{rules}
use native.Mathlib.Omega.{arith}
use Rattle.block.specs.Sums.{long_sum}
use Rattle.block.proofs.Longs.{two_more}
use Rattle.block.proofs.sum.long_sum.Goals as goal

pub loop-j-init : goal.loop-j-init
unfolding long_sum
loop-j-init c = search rules

pub loop-j-preserved : goal.loop-j-preserved
loop-j-preserved c =
    let b = c.args.b.now in
    let j = c.loop-j.j in
    (omega (arith, two_more j b (omega arith)), omega arith)
