-- `header_of` meets its contract: field by field it is the definition.
use Rattle.std.proofs.Common.{rules}
use Rattle.signals.specs.Header.{header_of}
use Rattle.signals.proofs.packet.header_of.Goals as goal

pub returns : goal.returns
unfolding header_of
returns c = search rules
