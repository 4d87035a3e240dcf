-- `record_right` is its definition.
use Rattle.records.specs.Records.{is_record}
use Rattle.records.proofs.records.record_right.Goals as goal

pub returns : goal.returns
unfolding is_record
returns c = c.flags_right.ensures
