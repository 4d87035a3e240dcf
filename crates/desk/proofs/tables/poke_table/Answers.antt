-- `poke_table` meets its contract: the part within the size is lent and comes back.
use Rattle.std.proofs.Common.{arith}
use Rattle.desk.specs.Tables.{poked_bytes}
use Rattle.desk.proofs.Fronts.{front_back}
use Rattle.desk.proofs.tables.poke_table.Goals as goal

pub returns-clause-table : goal.returns-clause-table
unfolding poked_bytes
returns-clause-table c =
    front_back c.min-n.result c.args.table.now c.poke.new.b _ _ c.min-n.ensures (omega (arith, c.poke.auto)) (rw c.min-n.ensures at c.poke.ensures.stored)
