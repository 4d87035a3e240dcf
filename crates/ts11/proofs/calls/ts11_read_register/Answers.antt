-- `ts11_read_register` meets its contract: refused with 1 where the bytes are no session's block, else the register's word.
use Rattle.ts11.proofs.Ways.{read_none, read_word, unread, was_read}
use Rattle.ts11.proofs.calls.ts11_read_register.Goals as goal

pub returns-then-not-block_right : goal.returns-then-not-block_right
returns-then-not-block_right c = unread _ _ _ c.block_right.ensures c.if-not-block_right.true c.number.ensures

pub returns-in-Ok : goal.returns-in-Ok
returns-in-Ok c = let p = read_word c.in-Ok.is in was_read _ _ _ _ _ _ _ _ c.block_right.ensures c.if-not-block_right.false c.session_in.ensures c.register_of.ensures c.read_register.ensures p.0 p.1

pub returns-in-Err : goal.returns-in-Err
returns-in-Err c = let p = read_none c.in-Err.is c.number-in-Err.ensures in was_read _ _ _ _ _ _ _ _ c.block_right.ensures c.if-not-block_right.false c.session_in.ensures c.register_of.ensures c.read_register.ensures p.0 p.1
