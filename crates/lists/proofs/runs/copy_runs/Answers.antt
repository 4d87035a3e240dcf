-- `copy_runs` meets its contract. So far the first k runs are there.
use native.Mathlib.Omega.{arith}
use mathlib.Core.Path.{◌≡◌}
use Prim.Native.Nat.{◌+◌, ◌-◌, ◌*◌, ◌/◌, ◌≤◌}
use Rattle.lists.proofs.Copied.{copied_at, copied_last, run_next, run_within, runs_rest}
use Rattle.std.proofs.Math.Nat.{mul-div-le}
use Rattle.lists.proofs.runs.copy_runs.Goals as goal

pub loop-k-preserved : goal.loop-k-preserved
loop-k-preserved g c =
    let m = g.row.N in
    let k = c.loop-k.k in
    let n = c.args.n in
    rw (run_next m n k) (copied_at c.args.b.now c.args.d.now c.args.from c.args.at (m * k) m c.loop-k.invariant c.run_at.ensures c.put_run.ensures (omega (arith, run_within m n k c.loop-k-test.true)) (omega (arith, run_within m n k c.loop-k-test.true)))

pub returns : goal.returns
returns g c =
    let m = g.row.N in
    let n = c.args.n in
    let e : c.loop-k.k ≡ n / m = omega arith in
    let most : m * (n / m) ≤ n = mul-div-le n m in
    let rest : n ≤ m * (n / m) + m = runs_rest m n c.requires.0 in
    copied_last c.args.b.now c.args.d.now c.args.from c.args.at (m * (n / m)) m (rw e at c.loop-k.invariant) (n - m) n c.run_at-2.ensures c.put_run-2.ensures (omega arith) (omega arith) (omega arith) (omega arith)
