-- `list_file` meets its contract: what it read is listed as all that the reader had.
use Rattle.std.proofs.Common.{arith, length}
use Rattle.lister.proofs.Reading.{read_listed}
use Rattle.lister.proofs.list_file.Goals as goal

pub returns : goal.returns
returns g c = read_listed c.list.result _ _ _ _ (length c.zeros-buffer.result) (omega arith) c.in_ok-got.ensures.bytes c.list.ensures
