-- `save_data` meets its contract: no byte fills an empty slice.
use Rattle.touched.proofs.Empty.{none_gathered}
use Rattle.touched.proofs.saving.save_data.Goals as goal

pub returns-else-not-is_empty : goal.returns-else-not-is_empty
returns-else-not-is_empty c = none_gathered _ _ _ _ c.if-not-is_empty.ensures
