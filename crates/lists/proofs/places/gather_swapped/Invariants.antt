-- `gather_swapped` meets its contract. In both loops what is still to fetch, from byte i on, gives the whole.
use mathlib.Core.Bool.{true}
use mathlib.Core.Path.{◌≡◌}
use Prim.Native.Nat.{◌-◌, ◌+◌, ◌*◌}
use lib.Seq.{sets}
use Rattle.lists.specs.Places.{gathered}
use Rattle.lists.proofs.places.gather_swapped.Given as goal

abbrev pub invariant-loop-k : goal.invariant-loop-k
invariant-loop-k l = sets l.b (l.lead + 64 * l.k) (gathered true l.mem (l.a + (l.lead + 64 * l.k)) (l.n - (l.lead + 64 * l.k))) ≡ gathered true l.mem l.a l.n

abbrev pub invariant-loop-i : goal.invariant-loop-i
invariant-loop-i l = sets l.b l.i (gathered true l.mem (l.a + l.i) (l.n - l.i)) ≡ gathered true l.mem l.a l.n
