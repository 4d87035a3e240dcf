-- `swapped` meets its contract. So far the first j words are swapped.
use mathlib.Core.Bool.{true}
use mathlib.Core.Path.{◌≡◌}
use Prim.Native.Nat.{◌*◌}
use lib.Seq.{sets}
use Rattle.lists.specs.Places.{gathered}
use Rattle.lists.proofs.runs.swapped.Given as goal

abbrev pub invariant-loop-j : goal.invariant-loop-j
invariant-loop-j g l = l.s ≡ sets l.fn.r 0 (gathered true l.fn.r 0 (2 * l.j))
