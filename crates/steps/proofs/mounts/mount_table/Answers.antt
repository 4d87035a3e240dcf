-- `mount_table` meets its contract: refusal 11, or the table filled.
use Rattle.steps.proofs.Mounting.{table_filled, table_lacks}
use Rattle.steps.proofs.mounts.mount_table.Goals as goal

pub returns-then-places-n : goal.returns-then-places-n
returns-then-places-n c = let both = table_lacks _ _ _ _ _ _ c.count_objects-n.ensures c.places.ensures c.if-places-n.true in record { outcome = both.0; table = both.1 }

pub returns : goal.returns
returns c = let both = table_filled _ _ _ _ _ _ c.count_objects-n.ensures c.places.ensures _ c.if-places-n.false c.fill_table.ensures in record { outcome = both.0; table = both.1 }
