-- `bring_back` meets its contract: a copy, two scatters and the data put the saved bytes back. What it requires lies far back, so it is named.
use borrow.Author.Rules.{rules}
use Rattle.touched.proofs.Joins.{parts_brought}
use Rattle.touched.proofs.saving.bring_back.Goals as goal

pub overflow_mul-t-3 : goal.overflow_mul-t-3
overflow_mul-t-3 c =
    let p = c.requires in
    search rules

pub scatter-requires : goal.scatter-requires
scatter-requires c =
    let p = c.requires in
    search rules

pub scatter-requires-2 : goal.scatter-requires-2
scatter-requires-2 c =
    let p = c.requires in
    search rules

pub bring_data-requires : goal.bring_data-requires
bring_data-requires c =
    let p = c.requires in
    search rules

pub returns : goal.returns
returns c = parts_brought c.args.t c.args.b.now c.args.mem.now c.args.reel.now c.args.table.now _ _ _ _ c.requires.0 c.copy.ensures c.scatter.ensures c.scatter-2.ensures c.bring_data.ensures
