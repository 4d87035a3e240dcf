-- `put_objects` meets its contract. What the turns that are left put makes the lines whole.
use native.Mathlib.Omega.{arith}
use Rattle.lister.proofs.Putting.{left_all, left_more, left_none}
use Rattle.lister.proofs.prints.put_objects.Goals as goal

pub loop-init : goal.loop-init
loop-init c = left_all _ _ _

pub loop-preserved : goal.loop-preserved
loop-preserved c =
    let l = c.loop in
    left_more c.args.out.now c.args.image.now c.args.e l.out l.at l.p _ l.invariant _ _ _ _ _ (omega arith) c.pass-m.ensures c.put_met-at.ensures c.next_of-p.ensures

pub returns : goal.returns
returns c =
    let l = c.loop in
    left_none c.args.out.now c.args.image.now c.args.e l.out l.at l.p _ l.invariant (omega arith)
