-- `check_sum` meets its contract: what the two sums differ by is a multiple of 65,535, and 0 where the words are.
use native.Mathlib.Omega.{arith}
use Prim.Native.Nat.{◌*◌, ◌/◌}
use lib.ListN.{length}
use lib.Seq.{length-take-le}
use Rattle.block.proofs.Longs.{fold_none, fold_same, summed}
use Rattle.block.proofs.sum.check_sum.Goals as goal

pub returns : goal.returns
returns c =
    let f = summed c.args.b.now c.requires.0 _ _ c.long_sum.ensures.is c.word_sum.ensures.is in
    record { same = fold_same _ _ f; none = fold_none _ _ f; low = omega (arith, length-take-le (8 * (length c.args.b.now / 8)) c.args.b.now (omega arith)) }
