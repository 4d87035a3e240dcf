-- `put_run` meets its contract: a part that was lent comes back as a run of stores.
use native.Mathlib.Omega.{arith}
use mathlib.Core.Path.{◌≡◌, ◌∙◌}
use Prim.Native.Nat.{◌+◌, ◌-◌}
use lib.ListN.{length}
use Rattle.lists.proofs.Stores.{length_part, put_sets}
use Rattle.lists.proofs.runs.put_run.Goals as goal

pub returns : goal.returns
returns g c =
    let at = c.args.at in
    let n = at + g.row.N - at in
    let r = c.copy_from_slice.ensures.after in
    let long : length c.copy_from_slice.new.self ≡ n = c.copy_from_slice.ensures.len ∙ length_part c.args.b.now at n (omega arith) in
    put_sets at n c.args.b.now c.copy_from_slice.new.self long (omega arith) ∙ rw r
