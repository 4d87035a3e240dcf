-- `put_result` meets its contract: its texts go in a row.
use Rattle.script.proofs.Printed.{put_more}
use Rattle.results.specs.Lines.{result_line}
use Rattle.results.proofs.puts.put_result.Goals as goal

pub returns : goal.returns
unfolding result_line
returns c =
    let d = put_more _ _ _ _ _ _ _ _ c.put_fields-at.ensures c.put_sums.ensures in
    let b = put_more _ _ _ _ _ _ _ _ c.put_bytes-at.ensures d in
    let a = put_more _ _ _ _ _ _ _ _ c.put_word_read-at.ensures b in
    put_more _ _ _ _ _ _ _ _ c.put_answer-at.ensures a
