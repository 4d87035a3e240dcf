-- `written_motion` meets its contract. The class is told by which arm of the test came.
use mathlib.Core.Path.{◌≡◌, ◌∙◌}
use Prim.Native.Nat.{◌+◌}
use borrow.Author.Tests.{le-leb, lt-leb}
use native.Mathlib.Omega.{arith}
use lib.Dec.{leb}
use Rattle.lists.specs.Pick.{pick}
use Rattle.tape.specs.Numbers.{eot_marker}
use Rattle.motions.specs.Parts.{laid_blocks}
use Rattle.motions.specs.Writes.{written_motion_under}
use Rattle.motions.proofs.writes.written_motion.Goals as goal
use Rattle.motions.proofs.writes.written_motion.Goals.{then-marker-after, else-marker-after}

pub returns : goal.returns
unfolding written_motion_under
returns c =
    let i = c.if-marker-after in
    let k : i.class ≡ pick (leb (eot_marker c.args.blocks) (c.args.l.at + laid_blocks c.args.l)) 2 0 = elim i.branch [ then-marker-after w ↦ w.class-is ∙ rw (le-leb (eot_marker c.args.blocks) (c.args.l.at + laid_blocks c.args.l) (omega arith)) | else-marker-after w ↦ w.class-is ∙ rw (lt-leb (eot_marker c.args.blocks) (c.args.l.at + laid_blocks c.args.l) (omega arith)) ] in
    rw (c.rest.ensures, k, c.flag-found.ensures.is, c.laid_blocks.ensures.is)
