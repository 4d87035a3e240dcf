-- `copy_runs` meets its contract. So far the first k runs are there.
use mathlib.Core.Path.{◌≡◌}
use Prim.Native.Nat.{◌*◌}
use lib.ListN.{take, drop}
use lib.Seq.{sets}
use Rattle.lists.proofs.runs.copy_runs.Given as goal

abbrev pub invariant-loop-k : goal.invariant-loop-k
invariant-loop-k g l = l.b ≡ sets l.initial.b l.at (take (g.row.N * l.k) (drop l.from l.d))
