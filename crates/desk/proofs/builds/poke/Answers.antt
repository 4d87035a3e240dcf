-- `poke`: the bytes that fit are stored.
use Rattle.std.proofs.Common.{◌≡◌, ◌+◌, ◌-◌, true, leb, length, arith}
use borrow.Author.Tests.{leb-true}
use Rattle.lists.proofs.Stores.{put_sets}
use Rattle.desk.specs.Builds.{poke_answer}
use Rattle.desk.proofs.builds.poke.Goals as goal

pub returns-clause-stored : goal.returns-clause-stored
unfolding poke_answer
returns-clause-stored c =
    let b = c.args.b.now in
    let d = c.args.d.now in
    let at = c.args.at in
    let t : leb (at + length d) (length b) ≡ true = cc in
    rw (t, c.copy_from_slice.ensures.after) (put_sets at (at + length d - at) b d (omega arith) (omega (arith, leb-true _ _ t)))
