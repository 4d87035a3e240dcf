-- `put_interrupt` meets its contract: two texts go in a row.
use mathlib.Core.Path.{◌∙◌}
use Rattle.script.proofs.Printed.{put_more}
use Rattle.results.proofs.Numbered.{bit_is}
use Rattle.results.proofs.puts.put_interrupt.Goals as goal

pub returns : goal.returns
returns c = let e = c.from.ensures ∙ bit_is c.args.interrupt in
    rw (← e) (put_more _ _ _ _ _ _ _ _ c.put_labelled-next.ensures c.put_labelled.ensures)
