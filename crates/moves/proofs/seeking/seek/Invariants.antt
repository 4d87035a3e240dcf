-- `seek` meets its contract. The turns that are left say from `at` on what all of them say from p on.
use mathlib.Core.Path.{◌≡◌}
use Prim.Native.Nat.{◌-◌}
use Rattle.moves.specs.Seeking.{sought, sought_from}
use Rattle.moves.proofs.seeking.seek.Given as goal

abbrev pub invariant-loop : goal.invariant-loop
invariant-loop l = sought_from (l.e - l.counter) l.reel l.reverse l.at l.e ≡ sought l.reel l.reverse l.p l.e
