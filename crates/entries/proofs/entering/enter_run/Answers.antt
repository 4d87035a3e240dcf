-- `enter_run` meets its contract: the run goes into the entry's frame.
use Rattle.entries.proofs.Joined.{run_entered}
use Rattle.entries.proofs.entering.enter_run.Goals as goal

pub returns : goal.returns
returns c = run_entered c.args.e c.args.mem.now c.args.jrnl.now _ _ c.args.used c.args.at c.args.n c.requires.4 c.requires.0 c.frame.ensures c.gather.ensures
