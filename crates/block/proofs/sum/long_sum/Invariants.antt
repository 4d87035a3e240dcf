-- `long_sum` meets its contract. So far the sum is that of the first j runs, and low enough not to wrap.
use mathlib.Core.Path.{◌≡◌}
use Prim.Native.Nat.{◌≤◌, ◌*◌}
use lib.ListN.{take}
use Rattle.block.specs.Sums.{long_sum}
use Rattle.block.proofs.sum.long_sum.Given as goal

abbrev pub invariant-loop-j : goal.invariant-loop-j
invariant-loop-j l = (l.sum ≡ long_sum (take (8 * l.j) l.b)) × (l.sum ≤ 8589934592 * l.j)
