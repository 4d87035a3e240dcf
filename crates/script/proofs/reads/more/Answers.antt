-- `more` meets its contract.
use mathlib.Core.Path.{sym, ap, ◌∙◌}
use native.Mathlib.Omega.{arith}
use Rattle.std.proofs.lemmas.Grind.{common_steps}
use Rattle.std.specs.Prelude.{ok_or}
use Rattle.std.specs.Result.{result_ok}
use Rattle.script.specs.declared.Fault.TheVariants as fault
use Rattle.script.proofs.Said.{joined_made, joined_none, joined_over, joined_wrong, product, refused}
use Rattle.script.proofs.reads.more.Goals as goal

pub returns-in_default : goal.returns-in_default
returns-in_default c = joined_none _ _ _ (grind (arith, common_steps, c.digit.ensures.is))

pub returns-then-base-d : goal.returns-then-base-d
returns-then-base-d c = joined_wrong _ _ _ _ (sym c.digit.ensures.is ∙ c.in-Some.is) c.if-base-d.true

pub returns-in_err-tens : goal.returns-in_err-tens
returns-in_err-tens c =
    let k = c.in_err-tens.ensures in
    refused _ _ c.from_residual.ensures.1
    ∙ k.value
    ∙ ap (λ o. ok_or o fault.NumberTooLarge) k.ok_part
    ∙ joined_over c.args.base c.args.value _ c.in-Some.d (sym c.digit.ensures.is ∙ c.in-Some.is) _ k.ok_part c.if-base-d.false c.checked_mul.ensures

pub returns : goal.returns
returns c =
    let m = product _ _ _ _ c.checked_mul.ensures (c.ok_or.ensures.ok_part ∙ ap result_ok c.in_ok-tens.was) in
    c.ok_or-2.ensures.value ∙ joined_made c.args.base c.args.value _ c.in-Some.d (sym c.digit.ensures.is ∙ c.in-Some.is) c.in_ok-tens.tens _ m c.if-base-d.false c.checked_add.ensures
