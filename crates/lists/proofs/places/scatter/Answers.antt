-- `scatter` meets its contract: with no swap a run is a part of the memory.
use lib.Seq.{take-length}
use Rattle.lists.proofs.Placed.{placed_plain}
use Rattle.lists.proofs.places.scatter.Goals as goal

pub returns-else-swb : goal.returns-else-swb
returns-else-swb c = rw (c.if-swb.false, placed_plain c.args.mem.now c.args.a c.args.d.now) (rw (take-length c.args.d.now) at c.copy.ensures)
