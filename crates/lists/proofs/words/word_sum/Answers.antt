-- `word_sum` meets its contract. So far the sum is that of the first j words, and low enough not to wrap.
use borrow.Author.Rules.{rules}
use native.Mathlib.Omega.{arith}
use Rattle.lists.specs.Words.{word_sum}
use Rattle.lists.proofs.Sums.{sum_more}
use Rattle.lists.proofs.words.word_sum.Goals as goal

pub loop-j-init : goal.loop-j-init
unfolding word_sum
loop-j-init c = search rules

pub loop-j-preserved : goal.loop-j-preserved
loop-j-preserved c =
    let b = c.args.b.now in
    let j = c.loop-j.j in
    (omega (arith, sum_more j b (omega arith)), omega arith)
