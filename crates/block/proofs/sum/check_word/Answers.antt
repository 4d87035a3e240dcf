-- `check_word` meets its contract: the block is long enough for what is lent of it.
use native.Mathlib.Omega.{arith}
use mathlib.Core.Path.{sym}
use lib.Seq.{length-take-le}
use Rattle.tape.specs.Numbers.{summed_bytes}
use Rattle.block.proofs.sum.check_word.Goals as goal

pub slice_bounds-check_sum-end : goal.slice_bounds-check_sum-end
slice_bounds-check_sum-end c = sym (length-take-le summed_bytes c.args.b.now (omega arith))
