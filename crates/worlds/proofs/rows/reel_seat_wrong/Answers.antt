-- `reel_seat_wrong` is its definition, by the law of whole blocks.
use Rattle.state.proofs.Tests.{whole_blocks}
use Rattle.worlds.specs.Rows.{reel_seat_wrong}
use Rattle.worlds.proofs.rows.reel_seat_wrong.Goals as goal

pub returns : goal.returns
unfolding reel_seat_wrong
returns c =
    let s = c.args.s in
    rw (← whole_blocks s.reel s.transport.blocks)
