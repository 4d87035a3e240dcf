-- `message_of` meets its contract: each of the seven words is what its part ensures.
use Rattle.signals.specs.Message.{message_of}
use Rattle.signals.proofs.message.message_of.Goals as goal

pub returns : goal.returns
unfolding message_of
returns c = rw (c.status_byte.ensures, c.from.ensures, c.header_word.ensures)
