-- `fill_table` meets its contract: the places of the first n objects are filled, p is where those end, and they have so many marks.
use mathlib.Core.Path.{◌≡◌}
use Prim.Native.Nat.{◌-◌, ◌≤◌}
use lib.ListN.{length, take}
use lib.Seq.{sets}
use Rattle.tape.specs.Afresh.{objects_in}
use Rattle.tape.specs.Objects.{blocks_of}
use Rattle.index.specs.Table.{marks_of, table_of}
use Rattle.index.proofs.filling.fill_table.Given as goal

abbrev pub invariant-loop-p : goal.invariant-loop-p
invariant-loop-p l = (l.n ≤ length (objects_in l.reel l.e))
    × (l.p ≡ blocks_of (take l.n (objects_in l.reel l.e)))
    × (l.marks ≡ marks_of (take l.n (objects_in l.reel l.e)))
    × (l.table ≡ sets l.initial.table 0 (table_of (take l.n (objects_in l.reel l.e))))

abbrev pub decreases-loop-p : goal.decreases-loop-p
decreases-loop-p l = length (objects_in l.reel l.e) - l.n
