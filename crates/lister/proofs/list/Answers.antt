-- `lister::list` meets its contract: what is written are the bytes of the listing.
use Prim.Native.Nat.{◌≤◌}
use Rattle.std.proofs.Common.{OnOk, subst, sym}
use Rattle.std.specs.Io.KnownBytes.{Appends}
use native.Mathlib.Omega.{arith}
use lib.ListN.{length, length-take}
use Rattle.lister.proofs.Putting.{lines_below, lines_written}
use Rattle.lister.proofs.list.Goals as goal

pub slice_bounds-out-end : goal.slice_bounds-out-end
slice_bounds-out-end g c = lines_below c.args.image.now _ _ _ (sym c.zeros-out.ensures.room) c.lines-n.ensures.stored c.lines-n.ensures.told

pub slice_bounds-write_all-end : goal.slice_bounds-write_all-end
slice_bounds-write_all-end g c =
    let below : c.lines-n.result ≤ length c.lines-n.new.out = lines_below c.args.image.now _ _ _ (sym c.zeros-out.ensures.room) c.lines-n.ensures.stored c.lines-n.ensures.told in
    omega (arith, length-take c.lines-n.result c.lines-n.new.out)

pub returns : goal.returns
returns g c =
    subst (λ l. OnOk c.write_all.result (Appends (g.W.Write.contents c.args.to.now) (g.W.Write.contents c.write_all.new.self) l)) (lines_written c.args.image.now _ _ _ (sym c.zeros-out.ensures.room) c.lines-n.ensures.stored c.lines-n.ensures.told) c.write_all.ensures.bytes
