-- `crc_table` meets its contract. So far the first i entries are there.
use mathlib.Core.Path.{refl}
use Rattle.script.specs.Sums.{table_to}
use Rattle.script.proofs.Xors.{table_end, table_more}
use native.Mathlib.Omega.{arith}
use Rattle.script.proofs.sums.crc_table.Goals as goal

pub loop-i-init : goal.loop-i-init
unfolding table_to
loop-i-init c = refl

pub loop-i-preserved : goal.loop-i-preserved
loop-i-preserved c =
    let l = c.loop-i in
    table_more l.entry-items l.i _ (omega arith) l.invariant c.crc_entry.ensures

pub returns : goal.returns
returns c =
    let l = c.loop-i in
    table_end l.entry-items l.i (omega arith) (omega arith) l.invariant
