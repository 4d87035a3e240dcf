-- `length_wrong` meets its contract: the header word's code is the command's.
use Rattle.std.proofs.Common.{rules}
use Rattle.signals.proofs.Coded.{command_codes}
use Rattle.advance.proofs.rules.Known.length_wrong.Goals.{in-Write, in_default}
use Rattle.advance.proofs.rules.Known.length_wrong.Goals as goal

pub returns : goal.returns
returns c =
    rw (command_codes _ _ _ c.args.self.known).0 (elim c.match-matches.branch [ in-Write w ↦ search rules | in_default w ↦ search rules ])
