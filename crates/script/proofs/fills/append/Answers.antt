-- `append` meets its contract: a line that doesn't hold the part stays.
use native.Mathlib.Omega.{arith}
use Rattle.script.proofs.Filled.{append_left, append_put}
use Rattle.script.proofs.fills.append.Goals as goal

pub returns-in_err-end-clause-line : goal.returns-in_err-end-clause-line
returns-in_err-end-clause-line c = append_left _ _ _ (omega (arith, c.in_err-end.ensures))

pub returns-then-line-end-clause-line : goal.returns-then-line-end-clause-line
returns-then-line-end-clause-line c = append_left _ _ _ (omega (arith, c.in_ok-end.ensures))

pub returns-clause-line : goal.returns-clause-line
returns-clause-line c = append_put _ _ _ _ _ c.in_ok-end.ensures.1 c.if-line-end.false c.copy_from_slice.ensures.after
