-- `bring_data` meets its contract: an empty run leaves memory as it is.
use Rattle.touched.proofs.Empty.{none_placed}
use Rattle.touched.proofs.saving.bring_data.Goals as goal

pub returns-else-not-is_empty : goal.returns-else-not-is_empty
returns-else-not-is_empty c = none_placed _ _ _ _ c.if-not-is_empty.ensures
