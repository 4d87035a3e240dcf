-- `enter_bare` meets its contract: nothing is saved in the frame.
use mathlib.Core.Path.{◌∙◌}
use Rattle.entries.proofs.Joined.{bare_entered}
use Rattle.entries.proofs.entering.enter_bare.Goals as goal

pub returns : goal.returns
returns c = c.frame.ensures ∙ bare_entered c.args.e c.args.jrnl.now c.args.used c.requires.1
