-- `back_refusal` meets its contract: a law for each answer, in number order.
use mathlib.Core.Path.{sym}
use Rattle.std.proofs.lemmas.Result.{err_from_is_err_and}
use Rattle.coupler.proofs.Refusing.{back_checked_lem, back_empty, back_inside, back_lost, back_short, back_stands}
use Rattle.coupler.proofs.backs.back_refusal.Goals as goal

pub returns-in_err-row_check : goal.returns-in_err-row_check
returns-in_err-row_check c = let p = err_from_is_err_and c.from_residual.result c.from_residual.ensures.1 in rw (p.1, p.2) (back_checked_lem _ _ _ _ _ _ (sym c.in_err-row_check.ensures))

pub returns-then-c-eq0 : goal.returns-then-c-eq0
returns-then-c-eq0 c = back_empty _ _ _ _ _ (sym c.in_ok-row_check.ensures) c.if-c-eq0.true

pub returns-then-c-lt-BARE : goal.returns-then-c-lt-BARE
returns-then-c-lt-BARE c = back_short _ _ _ _ _ (sym c.in_ok-row_check.ensures) c.if-c-eq0.false c.if-c-lt-BARE.true

pub named-k-requires : goal.named-k-requires
named-k-requires c = (c.if-c-lt-BARE.false, back_inside _ _ _ _ 0 (sym c.in_ok-row_check.ensures))

pub returns-then-k-standing : goal.returns-then-k-standing
returns-then-k-standing c = back_stands _ _ _ _ _ (sym c.in_ok-row_check.ensures) c.if-c-eq0.false c.if-c-lt-BARE.false _ _ c.named-k.ensures c.standing.ensures c.if-k-standing.true

pub returns : goal.returns
returns c = back_lost _ _ _ _ _ (sym c.in_ok-row_check.ensures) c.if-c-eq0.false c.if-c-lt-BARE.false _ _ c.named-k.ensures c.standing.ensures c.if-k-standing.false
