-- `digits` meets its contract: what the digits from here say behind the number so far is what all of them say.
use mathlib.Core.Path.{sym, ◌∙◌}
use native.Mathlib.Omega.{arith}
use Rattle.script.proofs.Said.{refused, said_end, said_on, said_wrong}
use Rattle.script.proofs.reads.digits.Goals as goal

pub returns-in_err-value : goal.returns-in_err-value
returns-in_err-value c =
    let l = c.loop-b in
    refused _ _ c.from_residual.ensures.1 ∙ sym (l.invariant ∙ said_wrong c.args.base l.value l.b-index c.args.text.now c.loop-b-test.true _ c.more.ensures _ c.in_err-value.was)

pub loop-b-preserved : goal.loop-b-preserved
loop-b-preserved c =
    let l = c.loop-b in
    l.invariant ∙ said_on c.args.base l.value l.b-index c.args.text.now c.loop-b-test.true _ c.more.ensures _ c.in_ok-value.was

pub returns : goal.returns
returns c =
    let l = c.loop-b in
    sym (l.invariant ∙ said_end c.args.base l.value l.b-index c.args.text.now (omega arith) (omega arith))
