-- `crc_entry` meets its contract: so far as many bits are passed as there were turns.
use native.Mathlib.Omega.{arith}
use Rattle.script.proofs.Xors.{steps_all, steps_more, steps_none}
use Rattle.script.proofs.sums.crc_entry.Goals as goal

pub loop-init : goal.loop-init
loop-init c = steps_none c.args.i

pub loop-preserved : goal.loop-preserved
loop-preserved c = steps_more _ _ _ _ c.loop.invariant c.crc_step-c.ensures

pub returns : goal.returns
returns c = steps_all _ _ _ _ (omega arith) c.loop.invariant
