-- `scatter_swapped` meets its contract. In both loops what is still to store, from byte i on, gives the whole.
use native.Mathlib.Omega.{arith}
use mathlib.Core.Bool.{true}
use mathlib.Core.Path.{◌≡◌, refl, sym, ◌∙◌}
use Prim.Native.Nat.{◌+◌, ◌*◌, ◌%◌}
use native.Mathlib.Nat.{add-zero}
use Rattle.lists.proofs.Placed.{place_more, placed_none_lem}
use Rattle.lists.proofs.Swapped.{scatter_first, scatter_none, scatter_words}
use Rattle.lists.proofs.places.scatter_swapped.Goals as goal
use Rattle.lists.proofs.places.scatter_swapped.Goals.{then-lead-eq1, else-lead-eq1}

pub loop-k-init : goal.loop-k-init
loop-k-init c =
    let m = c.args.mem.now in
    let d = c.args.d.now in
    let a = c.args.a in
    let lead = c.min-lead.ensures in
    rw (add-zero c.min-lead.result) (elim c.if-lead-eq1.branch [ then-lead-eq1 w ↦ scatter_first m d a lead w.if-lead-eq1.true w.mem-is | else-lead-eq1 w ↦ scatter_none m d a lead w.if-lead-eq1.false w.mem-is ])

pub loop-k-preserved : goal.loop-k-preserved
loop-k-preserved c =
    let i = c.min-lead.result + 64 * c.loop-k.k in
    let next : c.min-lead.result + 64 * (c.loop-k.k + 1) ≡ i + 64 = omega arith in
    let even : (c.args.a + i) % 2 ≡ 0 = omega arith in
    rw next (scatter_words c.loop-k.mem c.args.d.now c.args.a i 64 c.run_at.ensures c.swapped.ensures c.put_run.ensures even refl (omega arith)) ∙ c.loop-k.invariant

pub loop-i-preserved : goal.loop-i-preserved
loop-i-preserved c = place_more true c.loop-i.mem c.args.d.now c.args.a c.loop-i.i c.place_of-at.ensures (omega arith) ∙ c.loop-i.invariant

pub returns : goal.returns
returns c = sym (placed_none_lem true c.loop-i.mem c.args.d.now (c.args.a + c.loop-i.i) c.loop-i.i (omega arith)) ∙ c.loop-i.invariant
