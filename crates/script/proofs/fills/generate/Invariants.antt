-- `generate` meets its contract. So far the first i bytes are there.
use mathlib.Core.Path.{◌≡◌}
use lib.Seq.{sets}
use Rattle.script.specs.Fills.{generated}
use Rattle.script.proofs.fills.generate.Given as goal

abbrev pub invariant-loop-i : goal.invariant-loop-i
invariant-loop-i l = l.b ≡ sets l.initial.b 0 (generated l.seed l.i)
