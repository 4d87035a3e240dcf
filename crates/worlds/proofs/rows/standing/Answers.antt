-- `standing` is its definition: a transport that is not absent has its seat in the row.
use mathlib.Core.Path.{sym}
use borrow.Author.Rules.{rules}
use borrow.Author.Tests.{leb-false}
use lib.Dec.{leb}
use lib.ListN.{length}
use Prim.Native.Nat.{◌<◌}
use Rattle.state.proofs.Tests.{neither}
use Rattle.entries.specs.Entries.{transports}
use Rattle.worlds.specs.Rows.{absent_in, standing_in}
use Rattle.worlds.proofs.rows.standing.Goals as goal

pub offset_bounds-seats-k : goal.offset_bounds-seats-k
unfolding absent_in
offset_bounds-seats-k c =
    let few : c.args.k < transports = leb-false transports c.args.k (neither (leb (length c.args.seats.now) c.args.k) (leb transports c.args.k) (sym c.if-not-absent.ensures)).1 in
    search rules

pub bounds-seats-k : goal.bounds-seats-k
unfolding absent_in
bounds-seats-k c = leb-false (length c.args.seats.now) c.args.k (neither (leb (length c.args.seats.now) c.args.k) (leb transports c.args.k) (sym c.if-not-absent.ensures)).0

pub returns-then-not-absent : goal.returns-then-not-absent
unfolding standing_in
returns-then-not-absent c = rw (← c.absent.ensures, c.if-not-absent.true)

pub returns-else-not-absent : goal.returns-else-not-absent
unfolding standing_in
returns-else-not-absent c = rw (← c.absent.ensures, c.if-not-absent.false)
