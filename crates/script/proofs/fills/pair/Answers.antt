-- `pair` meets its contract.
use mathlib.Core.Path.{sym, ◌∙◌}
use Rattle.script.proofs.Paired.{pair_high, pair_is, pair_low}
use Rattle.script.proofs.fills.pair.Goals as goal

pub returns-in_err-digit : goal.returns-in_err-digit
returns-in_err-digit c = c.from_residual.ensures ∙ pair_high _ _ (sym c.digit.ensures.is ∙ c.in_err-digit.was)

pub returns-in_err-digit-2 : goal.returns-in_err-digit-2
returns-in_err-digit-2 c = c.from_residual-in_err-digit-2.ensures ∙ pair_low _ _ _ (sym c.digit.ensures.is ∙ c.in_ok-digit.was) (sym c.digit-2.ensures.is ∙ c.in_err-digit-2.was)

pub returns : goal.returns
returns c = pair_is _ _ _ (sym c.digit.ensures.is ∙ c.in_ok-digit.was) _ (sym c.digit-2.ensures.is ∙ c.in_ok-digit-2.was)
