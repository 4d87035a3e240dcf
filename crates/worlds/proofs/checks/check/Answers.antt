-- `check` meets its contract: one line for each refusal, in number order.
use Rattle.std.proofs.lemmas.Result.{err_from_is_err_and}
use Rattle.worlds.specs.Refusals.{checked}
use borrow.Author.Tests.{eq-eqb, ne_eqb}
use Rattle.worlds.proofs.checks.check.Goals as goal

pub returns-then-session_wrong : goal.returns-then-session_wrong
unfolding checked
returns-then-session_wrong c = rw (← c.session_wrong.ensures, c.if-session_wrong.true)

pub returns-in_err-unit_check : goal.returns-in_err-unit_check
unfolding checked
returns-in_err-unit_check c = let p = err_from_is_err_and c.from_residual.result c.from_residual.ensures.1 in rw (p.1, p.2, ← c.session_wrong.ensures, c.if-session_wrong.false, ← c.in_err-unit_check.ensures)

pub returns-then-journal-s : goal.returns-then-journal-s
unfolding checked
returns-then-journal-s c = rw (← c.session_wrong.ensures, c.if-session_wrong.false, ← c.in_ok-unit_check.ensures, ne_eqb _ _ c.if-journal-s.true)

pub returns : goal.returns
unfolding checked
returns c = rw (← c.session_wrong.ensures, c.if-session_wrong.false, ← c.in_ok-unit_check.ensures, eq-eqb _ _ c.if-journal-s.false)
