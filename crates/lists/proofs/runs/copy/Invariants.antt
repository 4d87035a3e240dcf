-- `copy` meets its contract. Of a few bytes the first i are there so far.
use mathlib.Core.Path.{◌≡◌}
use lib.ListN.{take, drop}
use lib.Seq.{sets}
use Rattle.lists.proofs.runs.copy.Given as goal

abbrev pub invariant-loop-i : goal.invariant-loop-i
invariant-loop-i l = (l.b ≡ sets l.initial.b l.at (take l.i (drop l.from l.d)))
