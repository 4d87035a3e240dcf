-- `is_tape` meets its contract: the header word's numbers are the command's.
use Rattle.std.proofs.Common.{rules}
use Rattle.signals.proofs.Coded.{command_codes}
use Rattle.advance.proofs.rules.Known.is_tape.Goals.{in-WriteCharacteristics, in_default}
use Rattle.advance.proofs.rules.Known.is_tape.Goals as goal

pub returns : goal.returns
returns c =
    let k = command_codes _ _ _ c.args.self.known in
    rw (k.0, k.1) (elim c.match-matches.branch [ in-WriteCharacteristics w ↦ search rules | in_default w ↦ search rules ])
