-- `gather` meets its contract: with no swap the bytes are a part of the memory, and they fill b.
use native.Mathlib.Omega.{arith}
use mathlib.Core.Path.{refl}
use lib.ListN.{length}
use Rattle.lists.proofs.Copied.{part_whole}
use Rattle.lists.proofs.Placed.{gathered_plain}
use Rattle.lists.proofs.places.gather.Goals as goal

pub returns-else-swb : goal.returns-else-swb
returns-else-swb c =
    let n = length c.args.b.now in
    rw (c.if-swb.false, gathered_plain c.args.mem.now c.args.a n (omega arith)) (rw (part_whole c.args.b.now c.args.mem.now c.args.a n (omega arith) refl) at c.copy.ensures)
