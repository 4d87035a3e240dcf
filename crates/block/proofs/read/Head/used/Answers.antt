-- `Head::used` meets its contract: a right head keeps `504 * i` within n.
use native.Mathlib.Omega.{arith}
use Rattle.block.proofs.Heads.{head_piece}
use Rattle.block.proofs.read.Head.used.Goals as goal

pub overflow_mul-self : goal.overflow_mul-self
overflow_mul-self c = omega (arith, head_piece _ _ _ (c.kind.ensures.piece cc) c.requires)

pub overflow_sub-self : goal.overflow_sub-self
overflow_sub-self c = omega (arith, head_piece _ _ _ (c.kind.ensures.piece cc) c.requires)
