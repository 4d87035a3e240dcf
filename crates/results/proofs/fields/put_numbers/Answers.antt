-- `put_numbers` meets its contract: so far the first numbers are put.
use lib.Seq.{take_all}
use Rattle.results.proofs.Texts.{numbers_more, put_empty}
use Rattle.results.specs.Lines.{numbers_text}
use Rattle.results.proofs.fields.put_numbers.Goals as goal

pub loop-n-init : goal.loop-n-init
unfolding numbers_text
loop-n-init c = put_empty _ _

pub loop-n-preserved : goal.loop-n-preserved
loop-n-preserved c = numbers_more _ _ _ _ _ c.loop-n.n-index _ _ c.loop-n-test.true c.loop-n.invariant c.put_labelled-next.ensures

pub returns : goal.returns
returns c = rw (take_all c.loop-n.n-index c.args.numbers.now c.loop-n-test.false) at c.loop-n.invariant
