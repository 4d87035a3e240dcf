-- `entry_length` is its definition. The range of `places` lies deep in what is known of the entry, so it is named.
use Rattle.entries.specs.Entries.{entry_length}
use Rattle.entries.proofs.entering.entry_length.Goals as goal

pub returns : goal.returns
unfolding entry_length
returns c = rw c.saved_length.ensures
