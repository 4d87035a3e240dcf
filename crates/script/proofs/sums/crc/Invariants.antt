-- `crc` meets its contract: what the bytes so far make of the sum, the bytes behind them go on with.
use Rattle.std.proofs.Common.{take}
use Rattle.script.proofs.Xors.{Summing}
use Rattle.script.proofs.sums.crc.Given as goal

abbrev pub invariant-loop-x : goal.invariant-loop-x
invariant-loop-x l = Summing l.table (take l.x-index l.b) l.c
