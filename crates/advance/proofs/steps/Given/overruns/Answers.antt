-- `overruns` meets its contract: a sum that stops at the greatest number is past the end of the same memories.
use native.Mathlib.Omega.{arith}
use lib.ListN.{length}
use Rattle.advance.proofs.Extents.{saturated}
use Rattle.advance.proofs.steps.Given.overruns.Goals as goal

pub returns : goal.returns
returns c = rw (c.saturating_add.ensures, c.from.ensures) (saturated (length c.args.self.memory.now) c.args.p.pointer c.args.p.count (omega arith))
