-- `sweep` meets its contract. The turns that are left say from p on what all of them say from block 0 on.
use mathlib.Core.Path.{refl, ◌∙◌}
use native.Mathlib.Nat.{sub-zero}
use Rattle.std.proofs.lemmas.Result.{err_from_is_err_and}
use Rattle.reel.proofs.Sweeps.{sweep_done, sweep_turn}
use Rattle.tape.specs.Sweep.{swept_below_under, swept_on}
use Rattle.reel.proofs.sweeping.sweep.Goals.{in-Gap, in-Mark, in-Record}
use Rattle.reel.proofs.sweeping.sweep.Goals as goal

pub loop-init : goal.loop-init
unfolding swept_below_under
loop-init c = rw sub-zero refl

pub loop-preserved : goal.loop-preserved
unfolding swept_on
loop-preserved c =
    sweep_turn _ _ _ _ c.loop-test.true c.pass.ensures
    (elim c.match-branch-2.branch [ in-Record w ↦ rw (c.in_ok-q.was, w.in-Record.is, w.p-is) | in-Mark w ↦ rw (c.in_ok-q.was, w.in-Mark.is, w.p-is) | in-Gap w ↦ rw (c.in_ok-q.was, w.in-Gap.is, w.p-is) ])
    ∙ c.loop.invariant

pub returns-in_err-q : goal.returns-in_err-q
unfolding swept_on
returns-in_err-q c =
    let p = err_from_is_err_and c.from_residual.result c.from_residual.ensures.1 in
    sweep_turn _ _ _ _ c.loop-test.true c.pass.ensures (rw (c.in_err-q.was, p.1, p.2)) ∙ c.loop.invariant

pub returns-in-Nothing : goal.returns-in-Nothing
unfolding swept_on
returns-in-Nothing c = sweep_turn _ _ _ _ c.loop-test.true c.pass.ensures (rw (c.in_ok-q.was, c.in-Nothing.is)) ∙ c.loop.invariant

pub returns : goal.returns
returns c = sweep_done _ _ _ _ c.loop-test.false ∙ c.loop.invariant
