-- `gather_swapped` meets its contract. In both loops what is still to fetch, from byte i on, gives the whole.
use native.Mathlib.Omega.{arith}
use mathlib.Core.Bool.{true}
use mathlib.Core.Path.{◌≡◌, refl, sym, ◌∙◌}
use Prim.Native.Nat.{◌-◌, ◌+◌, ◌*◌, ◌%◌}
use native.Mathlib.Nat.{add-zero}
use lib.ListN.{length}
use Rattle.lists.proofs.Placed.{gather_more, gathered_none}
use Rattle.lists.proofs.Swapped.{gather_first, gather_none, gather_words}
use Rattle.lists.proofs.places.gather_swapped.Goals as goal
use Rattle.lists.proofs.places.gather_swapped.Goals.{then-lead-eq1, else-lead-eq1}

pub loop-k-init : goal.loop-k-init
loop-k-init c =
    let b = c.args.b.now in
    let m = c.args.mem.now in
    let a = c.args.a in
    let lead = c.min-lead.ensures in
    rw (add-zero c.min-lead.result) (elim c.if-lead-eq1.branch [ then-lead-eq1 w ↦ gather_first b m a lead w.if-lead-eq1.true w.b-is | else-lead-eq1 w ↦ gather_none b m a lead w.if-lead-eq1.false w.b-is ])

pub loop-k-preserved : goal.loop-k-preserved
loop-k-preserved c =
    let n = length c.args.b.now in
    let i = c.min-lead.result + 64 * c.loop-k.k in
    let next : c.min-lead.result + 64 * (c.loop-k.k + 1) ≡ i + 64 = omega arith in
    let even : (c.args.a + i) % 2 ≡ 0 = omega arith in
    rw next (gather_words c.loop-k.b c.args.mem.now c.args.a i 64 (n - (i + 64)) (n - i) c.run_at.ensures c.swapped.ensures c.put_run.ensures even refl (omega arith)) ∙ c.loop-k.invariant

pub loop-i-preserved : goal.loop-i-preserved
loop-i-preserved c =
    let n = length c.args.b.now in
    let i = c.loop-i.i in
    gather_more true c.loop-i.b c.args.mem.now c.args.a i (n - (i + 1)) (n - i) c.place_of-from.ensures (omega arith) ∙ c.loop-i.invariant

pub returns : goal.returns
returns c = sym (gathered_none true c.loop-i.b c.args.mem.now c.loop-i.i (c.args.a + c.loop-i.i) (length c.args.b.now - c.loop-i.i) (omega arith)) ∙ c.loop-i.invariant
