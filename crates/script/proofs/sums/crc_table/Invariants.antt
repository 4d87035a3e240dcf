-- `crc_table` meets its contract. So far the first i entries are there.
use mathlib.Core.Path.{◌≡◌}
use lib.ListN.{take}
use Rattle.script.specs.Sums.{table_to}
use Rattle.script.proofs.sums.crc_table.Given as goal

abbrev pub invariant-loop-i : goal.invariant-loop-i
invariant-loop-i l = take l.i l.entry-items ≡ table_to l.i
