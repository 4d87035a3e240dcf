-- `put_sums` meets its contract: its texts go in a row.
use Rattle.script.proofs.Printed.{put_more}
use Rattle.results.specs.Lines.{sums_text}
use Rattle.results.proofs.puts.put_sums.Goals as goal

pub returns : goal.returns
unfolding sums_text
returns c =
    let g = put_more _ _ _ _ _ _ _ _ c.put_hex-at-3.ensures c.put_bytes.ensures in
    let f = put_more _ _ _ _ _ _ _ _ c.put_bytes-at-3.ensures g in
    let e = put_more _ _ _ _ _ _ _ _ c.put_hex-at-2.ensures f in
    let b = put_more _ _ _ _ _ _ _ _ c.put_bytes-at-2.ensures e in
    let a = put_more _ _ _ _ _ _ _ _ c.put_hex-at.ensures b in
    put_more _ _ _ _ _ _ _ _ c.put_bytes-at.ensures a
