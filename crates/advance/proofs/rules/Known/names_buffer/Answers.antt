-- `names_buffer` meets its contract: the header word's code is the command's.
use Rattle.std.proofs.Common.{rules}
use Rattle.signals.proofs.Coded.{command_codes}
use Rattle.advance.proofs.rules.Known.names_buffer.Goals as goal

pub returns : goal.returns
returns c =
    rw (command_codes _ _ _ c.args.self.known).0 (search rules)
