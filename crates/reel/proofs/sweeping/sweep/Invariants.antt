-- `sweep` meets its contract. The turns that are left say from p on what all of them say from block 0 on.
use mathlib.Core.Path.{◌≡◌}
use Prim.Native.Nat.{◌-◌}
use Rattle.tape.specs.Sweep.{swept_below, swept_from}
use Rattle.reel.proofs.sweeping.sweep.Given as goal

abbrev pub invariant-loop : goal.invariant-loop
invariant-loop l = swept_from (l.e - l.counter) l.reel l.p l.e ≡ swept_below l.reel l.e
