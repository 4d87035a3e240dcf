-- `padded_right` meets its contract: what it has read decides padding and check.
use mathlib.Core.Path.{refl}
use native.Mathlib.Omega.{arith}
use Rattle.block.proofs.Bodies.{body_read}
use Rattle.block.proofs.read.padded_right.Goals as goal

pub returns : goal.returns
returns c = body_read c.args.b.now c.args.used _ _ _ _ _ (omega arith) (omega arith) refl c.word_sum.ensures.is c.check_sum.ensures.same c.check_sum-rest.ensures.same c.check_sum-rest.ensures.none c.word.ensures.is
