-- `put_places` meets its contract: what is left of the row, put from here, makes the whole.
use native.Mathlib.Omega.{arith}
use mathlib.Core.Path.{ap, ◌∙◌}
use Prim.Native.Nat.{◌+◌, ◌*◌}
use lib.ListN.{length}
use lib.Seq.{length-sets}
use Rattle.index.specs.Table.{place_bytes, place_length}
use Rattle.index.proofs.Cuts.{row_none_left, row_turn}
use Rattle.index.proofs.cutting.put_places.Goals as goal

pub loop-i-preserved : goal.loop-i-preserved
loop-i-preserved c =
    let l = c.loop-i in
    (omega arith, row_turn l.table _ c.args.c.place c.args.b c.args.c.marks l.i c.args.n (omega arith) c.put_place.ensures ∙ l.invariant.1, ap length c.put_place.ensures ∙ length-sets l.table (place_length * (c.args.c.place + l.i)) (place_bytes (c.args.b + l.i) c.args.c.marks) ∙ l.invariant.2)

pub returns : goal.returns
returns c =
    let l = c.loop-i in
    row_none_left l.table c.args.c.place c.args.b c.args.c.marks l.i c.args.n (omega arith) (omega arith) ∙ l.invariant.1
