-- `write_at` meets its contract.
use native.Mathlib.Omega.{arith}
use borrow.Author.Tests.{le-ltb, lt-ltb}
use Prim.Native.Nat.{◌+◌}
use Rattle.motions.specs.Parts.{laid_blocks}
use Rattle.motions.specs.Writes.{written_at_under}
use Rattle.motions.proofs.writes.write_at.Goals as goal

pub returns-then-blocks-l : goal.returns-then-blocks-l
unfolding written_at_under
returns-then-blocks-l c = rw (lt-ltb c.args.blocks (c.args.l.at + laid_blocks c.args.l) (omega arith)) c.no_room.ensures

pub returns-then-blocks-l-2 : goal.returns-then-blocks-l-2
unfolding written_at_under
returns-then-blocks-l-2 c = rw (lt-ltb c.args.blocks (c.args.l.at + laid_blocks c.args.l) (omega arith)) c.no_room-then-blocks-l-2.ensures

pub returns : goal.returns
unfolding written_at_under
returns c = rw (le-ltb c.args.blocks (c.args.l.at + laid_blocks c.args.l) (omega arith)) c.written_motion.ensures
