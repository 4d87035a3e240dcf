-- `has_extent` meets its contract: the header word's code is the command's.
use Rattle.std.proofs.Common.{rules}
use Rattle.signals.proofs.Coded.{command_codes}
use Rattle.advance.proofs.rules.Known.has_extent.Goals as goal

pub returns-in-ReadNext : goal.returns-in-ReadNext
returns-in-ReadNext c = rw (command_codes _ _ _ c.args.self.known).0 (search rules)

pub returns-in_default : goal.returns-in_default
returns-in_default c = rw (command_codes _ _ _ c.args.self.known).0 (search rules)
