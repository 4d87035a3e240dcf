-- `count_objects` meets its contract: n objects are passed, and p is where they end.
use mathlib.Core.Path.{◌≡◌}
use Prim.Native.Nat.{◌-◌, ◌≤◌}
use lib.ListN.{length, take}
use Rattle.tape.specs.Afresh.{objects_in}
use Rattle.tape.specs.Objects.{blocks_of}
use Rattle.index.proofs.filling.count_objects.Given as goal

abbrev pub invariant-loop-p : goal.invariant-loop-p
invariant-loop-p l = (l.n ≤ length (objects_in l.reel l.e)) × (l.p ≡ blocks_of (take l.n (objects_in l.reel l.e)))

abbrev pub decreases-loop-p : goal.decreases-loop-p
decreases-loop-p l = length (objects_in l.reel l.e) - l.n
