-- `read_end` meets its contract. The class is told by which arm of the test came.
use mathlib.Core.Path.{◌≡◌, ◌∙◌}
use borrow.Author.Tests.{eq-eqb, ne_eqb}
use lib.Dec.{eqb}
use Rattle.lists.specs.Pick.{pick}
use Rattle.motions.specs.Reads.{read_end}
use Rattle.motions.proofs.reads.read_end.Goals as goal
use Rattle.motions.proofs.reads.read_end.Goals.{then-n-c, else-n-c}

pub returns : goal.returns
unfolding read_end
returns c =
    let i = c.if-n-c in
    let k : i.class ≡ pick (eqb c.args.n c.args.count.0) 0 2 = elim i.branch [ then-n-c w ↦ w.class-is ∙ rw (eq-eqb c.args.n c.args.count.0 w.if-n-c.true) | else-n-c w ↦ w.class-is ∙ rw (ne_eqb c.args.n c.args.count.0 w.if-n-c.false) ] in
    rw (k, c.flag.ensures.is, c.flag-2.ensures.is, c.flag-xst3.ensures.is, c.min.ensures)
