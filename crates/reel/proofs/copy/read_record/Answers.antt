-- `read_record` meets its contract: each way, the bytes that are copied out are those that the Read moves.
use Rattle.reel.proofs.Moved.{read_forward, read_reverse}
use Rattle.reel.proofs.copy.read_record.Goals as goal

pub returns-then-reverse : goal.returns-then-reverse
returns-then-reverse c =
    let room = c.requires.0 in
    let few = c.min-moved.ensures in
    let way = c.if-reverse.true in
    read_reverse _ _ _ _ _ _ _ _ _ _ room few way c.copy_out.ensures

pub returns-else-reverse : goal.returns-else-reverse
returns-else-reverse c =
    let room = c.requires.0 in
    let few = c.min-moved.ensures in
    let way = c.if-reverse.false in
    read_forward _ _ _ _ _ _ _ _ _ _ room few way c.copy_out-else-reverse.ensures
