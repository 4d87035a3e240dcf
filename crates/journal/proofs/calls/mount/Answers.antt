-- `mount` meets its contract: refusals 2, 3, 4 and 7, else the reel is whole, and its table is filled.
use mathlib.Core.Path.{refl, sym}
use Rattle.std.proofs.lemmas.Result.{err_from_is_err_and}
use native.Mathlib.Omega.{arith}
use Rattle.steps.proofs.Mounting.{mount_holds, mount_long, mount_rests, mount_stops, mount_tables}
use Rattle.worlds.specs.Calls.{table_mounted}
use Rattle.journal.proofs.calls.mount.Goals as goal

pub returns-in_err-mount_refusal-clause-outcome : goal.returns-in_err-mount_refusal-clause-outcome
returns-in_err-mount_refusal-clause-outcome c =
    let p = err_from_is_err_and c.from_residual.result c.from_residual.ensures.1 in
    rw (p.1, p.2) ((mount_stops _ _ c.args.table.now _ _ _ _ _ (sym c.in_err-mount_refusal.ensures)).0)

pub returns-in_err-mount_refusal-clause-table : goal.returns-in_err-mount_refusal-clause-table
unfolding table_mounted
returns-in_err-mount_refusal-clause-table c = let p = err_from_is_err_and c.from_residual.result c.from_residual.ensures.1 in rw (p.1)

pub returns-then-journal-gt-JOURNAL_LIMIT-clause-outcome : goal.returns-then-journal-gt-JOURNAL_LIMIT-clause-outcome
returns-then-journal-gt-JOURNAL_LIMIT-clause-outcome c = (mount_long _ _ c.args.table.now _ _ _ _ (sym c.in_ok-mount_refusal.ensures) c.if-journal-gt-JOURNAL_LIMIT.true).0

pub returns-then-journal-gt-JOURNAL_LIMIT-clause-table : goal.returns-then-journal-gt-JOURNAL_LIMIT-clause-table
unfolding table_mounted
returns-then-journal-gt-JOURNAL_LIMIT-clause-table c = refl

pub returns-in_err-u-clause-outcome : goal.returns-in_err-u-clause-outcome
returns-in_err-u-clause-outcome c =
    let p = err_from_is_err_and c.from_residual-in_err-u.result c.from_residual-in_err-u.ensures.1 in
    rw (p.1, p.2) ((mount_rests _ _ c.args.table.now _ _ _ _ (sym c.in_ok-mount_refusal.ensures) c.if-journal-gt-JOURNAL_LIMIT.false _ (sym c.in_err-u.ensures.is)).0)

pub returns-in_err-u-clause-table : goal.returns-in_err-u-clause-table
unfolding table_mounted
returns-in_err-u-clause-table c = let p = err_from_is_err_and c.from_residual-in_err-u.result c.from_residual-in_err-u.ensures.1 in rw (p.1)

pub mount_table-requires : goal.mount_table-requires
mount_table-requires c = mount_holds _ c.args.reel.now c.args.table.now _ _ _ _ (sym c.in_ok-mount_refusal.ensures) c.if-journal-gt-JOURNAL_LIMIT.false _ (sym c.in_ok-u.ensures.is) (λ i. omega (arith, c.type_inv.reel i))

pub returns-clause-outcome : goal.returns-clause-outcome
returns-clause-outcome c = (mount_tables _ c.args.reel.now c.args.table.now _ _ _ _ (sym c.in_ok-mount_refusal.ensures) c.if-journal-gt-JOURNAL_LIMIT.false _ (sym c.in_ok-u.ensures.is) _ _ (c.mount_table.ensures.outcome, c.mount_table.ensures.table)).0
