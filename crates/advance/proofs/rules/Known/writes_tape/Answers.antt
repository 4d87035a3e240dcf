-- `writes_tape` meets its contract: the header word's code is the command's.
use Rattle.std.proofs.Common.{rules}
use Rattle.signals.proofs.Coded.{command_codes}
use Rattle.advance.proofs.rules.Known.writes_tape.Goals as goal

pub returns-in-Write : goal.returns-in-Write
returns-in-Write c =
    rw (command_codes _ _ _ c.args.self.known).0 (search rules)

pub returns-in_default : goal.returns-in_default
returns-in_default c =
    rw (command_codes _ _ _ c.args.self.known).0 (search rules)
