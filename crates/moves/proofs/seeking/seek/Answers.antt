-- `seek` meets its contract. The turns that are left say from `at` on what all of them say from p on.
use mathlib.Core.Path.{refl, ◌∙◌}
use native.Mathlib.Nat.{sub-zero}
use Rattle.std.proofs.lemmas.Result.{err_from_is_err_and}
use Rattle.moves.proofs.Seeks.{seek_done, seek_turn}
use Rattle.moves.specs.Seeking.{sought_under, sought_on}
use Rattle.moves.proofs.seeking.seek.Goals as goal

pub loop-init : goal.loop-init
unfolding sought_under
loop-init c = rw sub-zero refl

pub returns-in-Record : goal.returns-in-Record
unfolding sought_on
returns-in-Record c = seek_turn _ _ _ _ _ c.loop-test.true c.pass.ensures (rw (c.in_ok-n.was, c.in-Record.is)) ∙ c.loop.invariant

pub returns-in-Mark : goal.returns-in-Mark
unfolding sought_on
returns-in-Mark c = seek_turn _ _ _ _ _ c.loop-test.true c.pass.ensures (rw (c.in_ok-n.was, c.in-Mark.is)) ∙ c.loop.invariant

pub loop-preserved : goal.loop-preserved
unfolding sought_on
loop-preserved c = seek_turn _ _ _ _ _ c.loop-test.true c.pass.ensures (rw (c.in_ok-n.was, c.in-Gap.is)) ∙ c.loop.invariant

pub returns-in-Nothing : goal.returns-in-Nothing
unfolding sought_on
returns-in-Nothing c = seek_turn _ _ _ _ _ c.loop-test.true c.pass.ensures (rw (c.in_ok-n.was, c.in-Nothing.is)) ∙ c.loop.invariant

pub returns-in_err-n : goal.returns-in_err-n
unfolding sought_on
returns-in_err-n c =
    let p = err_from_is_err_and c.from_residual.result c.from_residual.ensures.1 in
    seek_turn _ _ _ _ _ c.loop-test.true c.pass.ensures (rw (c.in_err-n.was, p.1, p.2)) ∙ c.loop.invariant

pub returns : goal.returns
returns c = seek_done _ _ _ _ _ c.loop-test.false ∙ c.loop.invariant
