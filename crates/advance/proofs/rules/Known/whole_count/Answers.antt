-- `whole_count` meets its contract: the header word's numbers are the command's.
use Rattle.std.proofs.Common.{rules}
use Rattle.signals.proofs.Coded.{command_codes}
use Rattle.advance.specs.Rules.{whole_count}
use Rattle.advance.proofs.rules.Known.whole_count.Goals as goal

pub returns-in-ReadNext : goal.returns-in-ReadNext
unfolding whole_count
returns-in-ReadNext c =
    let k = command_codes _ _ _ c.args.self.known in
    rw (k.0, k.1) (search rules)

pub returns-in-RecordsForward : goal.returns-in-RecordsForward
unfolding whole_count
returns-in-RecordsForward c =
    let k = command_codes _ _ _ c.args.self.known in
    rw (k.0, k.1) (search rules)

pub returns-in-MarksForward : goal.returns-in-MarksForward
unfolding whole_count
returns-in-MarksForward c =
    let k = command_codes _ _ _ c.args.self.known in
    rw (k.0, k.1) (search rules)

pub returns-in_default : goal.returns-in_default
unfolding whole_count
returns-in_default c =
    let k = command_codes _ _ _ c.args.self.known in
    rw (k.0, k.1) (search rules)
