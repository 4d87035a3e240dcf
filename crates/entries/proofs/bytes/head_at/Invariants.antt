-- `head_at` meets its contract. What is still to read, from number i on, gives the whole.
use mathlib.Core.Path.{◌≡◌}
use Prim.Native.Nat.{◌≤◌, ◌-◌, ◌+◌, ◌*◌}
use lib.ListN.{length, drop}
use lib.Seq.{sets}
use Rattle.entries.specs.Bytes.{head_numbers}
use Rattle.entries.proofs.bytes.head_at.Given as goal

abbrev pub invariant-loop-i : goal.invariant-loop-i
invariant-loop-i l = (l.i ≤ 31) × (length l.x-items ≡ 31) × (sets l.x-items l.i (head_numbers (31 - l.i) (drop (l.at + 4 * l.i) l.b)) ≡ head_numbers 31 (drop l.at l.b))
