-- `crc_step` meets its contract: the lowest bit says which way.
use mathlib.Core.Path.{sym}
use Rattle.script.proofs.Xors.{even, step_even, step_odd}
use Rattle.script.proofs.sums.crc_step.Goals as goal

pub returns-then-c-eq1 : goal.returns-then-c-eq1
returns-then-c-eq1 c = sym (step_odd _ c.if-c-eq1.true)

pub returns-else-c-eq1 : goal.returns-else-c-eq1
returns-else-c-eq1 c = sym (step_even _ (even _ c.if-c-eq1.false))
