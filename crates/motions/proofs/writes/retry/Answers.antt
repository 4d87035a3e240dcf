-- `retry` meets its contract: an arm for each thing found.
use mathlib.Core.Logic.{⊎_elim}
use mathlib.Core.Path.{◌≡◌}
use Rattle.std.proofs.lemmas.Result.{err_from_is_err_and}
use Rattle.moves.specs.declared.seeking.Sought.TheVariants as sought
use Rattle.motions.specs.Writes.{retried_under, retried_by_under}
use Rattle.motions.proofs.writes.retry.Goals as goal

pub returns-in_err-q : goal.returns-in_err-q
unfolding retried_under retried_by_under
returns-in_err-q c =
    let p = err_from_is_err_and c.from_residual.result c.from_residual.ensures.1 in
    rw (p.1, p.2, ← c.seek.ensures, c.in_err-q.was)

pub returns-in-Record : goal.returns-in-Record
unfolding retried_under retried_by_under
returns-in-Record c =
    ⊎_elim
    (λ r. rw (← c.seek.ensures, c.in_ok-q.was, r.1, ← c.behind_gap.ensures) c.write_at.ensures)
    (λ (m : c.in_ok-q.field-0 ≡ sought.Mark c.in-Record.q). rw (← c.seek.ensures, c.in_ok-q.was, m, ← c.behind_gap.ensures) c.write_at.ensures)
    c.in-Record.is

pub returns-in-Nothing : goal.returns-in-Nothing
unfolding retried_under retried_by_under
returns-in-Nothing c = rw (← c.seek.ensures, c.in_ok-q.was, c.in-Nothing.is, c.rest.ensures)
