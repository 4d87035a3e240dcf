-- `reverse_first` meets its contract: the header word's numbers are the command's.
use Rattle.std.proofs.Common.{rules}
use Rattle.signals.proofs.Coded.{command_codes}
use Rattle.advance.proofs.rules.Known.reverse_first.Goals as goal

pub returns-in-ReadPrevious : goal.returns-in-ReadPrevious
returns-in-ReadPrevious c =
    let k = command_codes _ _ _ c.args.self.known in
    rw (k.0, k.1) (search rules)

pub returns-in_default : goal.returns-in_default
returns-in_default c =
    let k = command_codes _ _ _ c.args.self.known in
    rw (k.0, k.1) (search rules)
