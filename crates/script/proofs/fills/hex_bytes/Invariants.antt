-- `hex_bytes` meets its contract. So far i pairs were read, and their bytes stand at the front.
use Rattle.script.proofs.Paired.{Read}
use Rattle.script.proofs.fills.hex_bytes.Given as goal

abbrev pub invariant-loop-i : goal.invariant-loop-i
invariant-loop-i l = Read l.text l.initial.out l.out l.i
