-- `lay_bytes`: the record that there is room for is laid.
use Rattle.std.proofs.Common.{◌≡◌, ◌+◌, ◌%◌, ◌/◌, true, leb, length, arith}
use borrow.Author.Tests.{eq-eqb, le-ltb}
use Rattle.tape.specs.Numbers.{block_bytes, pieces_of}
use Rattle.desk.specs.Builds.{record_answer}
use Rattle.desk.proofs.Built.{laid_front}
use Rattle.desk.proofs.builds.lay_bytes.Goals as goal

pub returns-clause-stored : goal.returns-clause-stored
unfolding record_answer
returns-clause-stored c =
    let s = c.args.reel.now in
    let d = c.args.«data».now in
    let p = c.args.p in
    let n = c.args.n in
    let t : leb (p + pieces_of n) (length s / block_bytes) ≡ true = cc in
    rw (le-ltb 65535 n (omega arith), le-ltb (length d) n (omega arith), eq-eqb (length d % 2) 0 (omega arith), t) (laid_front s d _ p n (omega arith) c.lay_record.ensures)
