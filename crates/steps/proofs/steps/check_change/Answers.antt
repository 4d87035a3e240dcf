-- `check_change` is its definition, test by test.
use mathlib.Core.Path.{sym}
use native.Mathlib.Omega.{arith}
use borrow.Author.Tests.{le-ltb, lt-ltb}
use Rattle.std.proofs.lemmas.Result.{err_from_is_err_and}
use Rattle.steps.specs.Readiness.{change_refusal}
use Rattle.worlds.proofs.Passing.{passed}
use Rattle.steps.proofs.steps.check_change.Goals as goal

pub returns-in_err-check : goal.returns-in_err-check
unfolding change_refusal
returns-in_err-check c = let p = err_from_is_err_and c.from_residual.result c.from_residual.ensures.1 in rw (p.1, p.2, ← c.in_err-check.ensures)

pub returns-then-too_small : goal.returns-then-too_small
unfolding change_refusal
returns-then-too_small c = rw (← c.in_ok-check.ensures, ← c.too_small.ensures, c.if-too_small.true)

pub overflow_sub-s : goal.overflow_sub-s
overflow_sub-s c = omega (arith, (passed _ _ _ _ (sym c.in_ok-check.ensures)).used)

pub returns-then-s-lt-BARE : goal.returns-then-s-lt-BARE
unfolding change_refusal
returns-then-s-lt-BARE c = rw (← c.in_ok-check.ensures, ← c.too_small.ensures, c.if-too_small.false, lt-ltb _ _ c.if-s-lt-BARE.true)

pub returns : goal.returns
unfolding change_refusal
returns c = rw (← c.in_ok-check.ensures, ← c.too_small.ensures, c.if-too_small.false, le-ltb _ _ c.if-s-lt-BARE.false)
