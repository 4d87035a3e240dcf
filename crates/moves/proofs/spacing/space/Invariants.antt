-- `space` meets its contract. The turns that are left say of the span now what all of them say of the first one.
use mathlib.Core.Path.{◌≡◌}
use Prim.Native.Nat.{◌+◌, ◌-◌}
use Rattle.moves.specs.Spacing.{spaced, spaced_from}
use Rattle.moves.proofs.spacing.space.Given as goal

abbrev pub invariant-loop : goal.invariant-loop
invariant-loop l = spaced_from (l.e + 1 - l.counter) l.reel l.r l.e l.s ≡ spaced l.reel l.r l.e l.initial.s
