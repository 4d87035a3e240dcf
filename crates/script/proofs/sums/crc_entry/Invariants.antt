-- `crc_entry` meets its contract: so far as many bits are passed as there were turns.
use mathlib.Core.Path.{◌≡◌}
use Rattle.script.specs.Sums.{steps}
use Rattle.script.proofs.sums.crc_entry.Given as goal

abbrev pub invariant-loop : goal.invariant-loop
invariant-loop l = l.c ≡ steps l.counter l.i
