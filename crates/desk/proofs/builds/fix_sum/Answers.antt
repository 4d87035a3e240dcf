-- `fix_sum`: the check word that a block's bytes ask is stored.
use Rattle.std.proofs.Common.{◌/◌, length, arith}
use borrow.Author.Tests.{lt-ltb}
use Rattle.tape.specs.Numbers.{block_bytes}
use Rattle.desk.specs.Builds.{block_answer}
use Rattle.desk.proofs.Built.{check_put}
use Rattle.desk.proofs.builds.fix_sum.Goals as goal

pub returns-clause-stored : goal.returns-clause-stored
unfolding block_answer
returns-clause-stored c =
    let s = c.args.reel.now in
    rw (lt-ltb c.args.k (length s / block_bytes) (omega arith)) (check_put s _ c.args.k _ c.word_sum-sum.ensures.is c.put_word.ensures)
