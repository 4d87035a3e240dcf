-- `scatter_swapped` meets its contract. In both loops what is still to store, from byte i on, gives the whole.
use mathlib.Core.Bool.{true}
use mathlib.Core.Path.{◌≡◌}
use Prim.Native.Nat.{◌+◌, ◌*◌}
use lib.ListN.{drop}
use Rattle.lists.specs.Places.{placed}
use Rattle.lists.proofs.places.scatter_swapped.Given as goal

abbrev pub invariant-loop-k : goal.invariant-loop-k
invariant-loop-k l = placed true l.mem (l.a + (l.lead + 64 * l.k)) (drop (l.lead + 64 * l.k) l.d) ≡ placed true l.fn.mem l.a l.d

abbrev pub invariant-loop-i : goal.invariant-loop-i
invariant-loop-i l = placed true l.mem (l.a + l.i) (drop l.i l.d) ≡ placed true l.fn.mem l.a l.d
