-- `full_right` meets its contract: with no padding the check decides.
use native.Mathlib.Omega.{arith}
use Rattle.block.proofs.Bodies.{full_read}
use Rattle.block.proofs.read.full_right.Goals as goal

pub returns : goal.returns
returns c = full_read c.args.b.now _ _ (omega arith) c.word.ensures.is c.check_word.ensures
