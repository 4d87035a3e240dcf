-- `put_complaint` meets its contract: two texts go in a row.
use Rattle.script.proofs.Printed.{put_more}
use Rattle.results.specs.Complaints.{complaint_line}
use Rattle.results.proofs.puts.put_complaint.Goals as goal

pub returns : goal.returns
unfolding complaint_line
returns c = put_more _ _ _ _ _ _ _ _ c.put_labelled-at.ensures (rw c.reason.ensures at c.put_bytes.ensures)
