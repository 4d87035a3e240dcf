-- `number` meets its contract.
use mathlib.Core.Path.{sym, ◌∙◌}
use Rattle.script.proofs.Said.{number_hex, number_missing, number_ten}
use Rattle.script.proofs.reads.number.Goals as goal

pub returns-then-is_empty : goal.returns-then-is_empty
returns-then-is_empty c = number_missing _ (sym c.is_empty.ensures ∙ c.if-is_empty.true)

pub returns-then-text-starts_with : goal.returns-then-text-starts_with
returns-then-text-starts_with c = number_hex c.args.text.now _ (sym c.is_empty.ensures ∙ c.if-is_empty.false) _ c.starts_with.ensures.value c.if-text-starts_with.true c.digits.ensures

pub returns : goal.returns
returns c = number_ten c.args.text.now _ (sym c.is_empty.ensures ∙ c.if-is_empty.false) _ c.starts_with.ensures.value c.if-text-starts_with.false c.digits-2.ensures
