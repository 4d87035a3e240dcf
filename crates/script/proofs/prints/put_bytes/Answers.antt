-- `put_bytes` meets its contract: what the part that is lent holds of the bytes.
use native.Mathlib.Omega.{arith}
use Rattle.script.proofs.Printed.{put_none, put_some}
use Rattle.script.proofs.prints.put_bytes.Goals as goal

pub returns-then-out-at : goal.returns-then-out-at
returns-then-out-at c = put_none _ _ _ (omega arith)

pub returns : goal.returns
returns c = put_some c.args.out.now c.args.b.now _ c.args.at _ (omega arith) c.copy.ensures c.min.ensures
