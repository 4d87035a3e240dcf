-- `pieces_met` meets its contract. The pieces from the j-th on say what all of them say; what is left of the m pieces falls.
use mathlib.Core.Path.{◌≡◌}
use Prim.Native.Nat.{◌-◌}
use Rattle.tape.specs.Pass.{lowest, pieces_met}
use Rattle.reel.proofs.passing.Way.pieces_met.Given as goal

abbrev pub invariant-loop-j : goal.invariant-loop-j
invariant-loop-j l = pieces_met l.reel l.self.reverse l.n l.p l.m l.j (l.m - l.j) l.whole ≡ pieces_met l.reel l.self.reverse l.n (lowest l.self.reverse l.self.position l.m) l.m 1 (l.m - 1) l.whole
