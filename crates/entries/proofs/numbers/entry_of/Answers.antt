-- `entry_of` is its definition.
use Rattle.entries.specs.Numbers.{entry_of}
use Rattle.entries.proofs.numbers.entry_of.Goals as goal

pub returns : goal.returns
unfolding entry_of
returns c = rw (c.unit_in.ensures, c.touched_of.ensures)
