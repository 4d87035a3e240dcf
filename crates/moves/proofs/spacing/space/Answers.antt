-- `space` meets its contract. The turns that are left say of the span now what all of them say of the first one.
use mathlib.Core.Path.{refl, ◌∙◌}
use native.Mathlib.Nat.{sub-zero}
use Rattle.std.proofs.lemmas.Result.{err_from_is_err_and}
use Rattle.moves.proofs.Spaces.{space_counted, space_done, space_turn}
use Rattle.moves.specs.Spacing.{spaced_under, spaced_on}
use Rattle.moves.proofs.spacing.space.Goals as goal

pub loop-init : goal.loop-init
unfolding spaced_under
loop-init c = rw sub-zero refl

pub returns-then-none_left : goal.returns-then-none_left
returns-then-none_left c = space_counted _ _ _ _ _ c.none_left.ensures c.if-none_left.true ∙ c.loop.invariant

pub loop-preserved : goal.loop-preserved
unfolding spaced_on
loop-preserved c = space_turn _ _ _ _ _ c.loop-test.true c.none_left.ensures c.if-none_left.false c.seek.ensures c.turn_after.ensures (rw (c.in_ok-next.was, c.in-On.is)) ∙ c.loop.invariant

pub returns-in-Over : goal.returns-in-Over
unfolding spaced_on
returns-in-Over c = space_turn _ _ _ _ _ c.loop-test.true c.none_left.ensures c.if-none_left.false c.seek.ensures c.turn_after.ensures (rw (c.in_ok-next.was, c.in-Over.is)) ∙ c.loop.invariant

pub returns-in_err-next : goal.returns-in_err-next
unfolding spaced_on
returns-in_err-next c =
    let p = err_from_is_err_and c.from_residual.result c.from_residual.ensures.1 in
    space_turn _ _ _ _ _ c.loop-test.true c.none_left.ensures c.if-none_left.false c.seek.ensures c.turn_after.ensures (rw (p.1, p.2, c.in_err-next.was)) ∙ c.loop.invariant

pub returns : goal.returns
returns c = space_done _ _ _ _ _ c.loop-test.false ∙ c.loop.invariant
