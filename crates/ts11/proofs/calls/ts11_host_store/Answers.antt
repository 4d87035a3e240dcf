-- `ts11_host_store` meets its contract: refused with 1 where the bytes are no session's block, else what the journal's call leaves.
use Rattle.ts11.proofs.Ways.{left, refused_number, step_goes, step_stops, wrote, zero}
use Rattle.ts11.proofs.calls.ts11_host_store.Goals as goal

pub returns-then-not-block_right : goal.returns-then-not-block_right
returns-then-not-block_right c = step_stops _ _ c.block_right.ensures c.if-not-block_right.true _ c.number.ensures

pub returns-in-Ok : goal.returns-in-Ok
returns-in-Ok c = step_goes _ _ c.block_right.ensures _ _ _ _ _ _ c.if-not-block_right.false c.session_in.ensures _ c.host_store.ensures (zero c.in-Ok.is) (wrote _ _ c.in-Ok.is c.close.ensures)

pub returns-in-Err : goal.returns-in-Err
returns-in-Err c = step_goes _ _ c.block_right.ensures _ _ _ _ _ _ c.if-not-block_right.false c.session_in.ensures _ c.host_store.ensures (refused_number c.in-Err.is c.number-in-Err.ensures) (left _ _ c.in-Err.is)
