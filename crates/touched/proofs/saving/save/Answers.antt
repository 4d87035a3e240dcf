-- `save` meets its contract: the data, two gathers and a copy fill the lent slice. What it requires lies far back, so it is named.
use borrow.Author.Rules.{rules}
use Rattle.touched.proofs.Joins.{parts_saved}
use Rattle.touched.proofs.saving.save.Goals as goal

pub overflow_mul-t-2 : goal.overflow_mul-t-2
overflow_mul-t-2 c = search rules

pub copy-requires : goal.copy-requires
copy-requires c =
    let p = c.requires in
    search rules

pub returns : goal.returns
returns c = parts_saved c.args.t c.args.mem.now c.args.reel.now c.args.table.now c.args.b.now _ _ _ _ c.requires.0 c.requires.2 c.save_data.ensures c.gather.ensures c.gather-2.ensures c.copy.ensures
