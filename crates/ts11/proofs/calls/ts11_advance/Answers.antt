-- `ts11_advance` meets its contract: as the other calls, and its answer is told beside its number.
use Rattle.ts11.proofs.Ways.{did, rested, step_goes, step_stops, step_told_lem, stopped, stops_told}
use Rattle.ts11.proofs.calls.ts11_advance.Goals as goal

pub returns-then-not-block_right : goal.returns-then-not-block_right
returns-then-not-block_right c = record { gives = step_stops _ _ c.block_right.ensures c.if-not-block_right.true _ c.number.ensures; tells = stops_told _ _ c.block_right.ensures c.if-not-block_right.true _ }

pub returns-in-Step-clause-gives : goal.returns-in-Step-clause-gives
returns-in-Step-clause-gives c =
    let p = did c.args.state.now c.session_in.result c.in-Ok.is c.in-Step.is c.close.ensures in
    step_goes _ _ c.block_right.ensures _ _ _ _ _ _ c.if-not-block_right.false c.session_in.ensures _ c.advance.ensures p.0 p.1

pub returns-in-Step-clause-tells : goal.returns-in-Step-clause-tells
returns-in-Step-clause-tells c =
    let p = did c.args.state.now c.session_in.result c.in-Ok.is c.in-Step.is c.close.ensures in
    step_told_lem _ _ c.block_right.ensures _ _ _ _ _ _ c.if-not-block_right.false c.session_in.ensures _ c.advance.ensures p.2 p.3 p.4 p.5

pub returns-in-Idle-clause-gives : goal.returns-in-Idle-clause-gives
returns-in-Idle-clause-gives c =
    let p = rested c.args.state.now c.session_in.result c.in-Ok.is c.in-Idle.is in
    step_goes _ _ c.block_right.ensures _ _ _ _ _ _ c.if-not-block_right.false c.session_in.ensures _ c.advance.ensures p.0 p.1

pub returns-in-Idle-clause-tells : goal.returns-in-Idle-clause-tells
returns-in-Idle-clause-tells c =
    let p = rested c.args.state.now c.session_in.result c.in-Ok.is c.in-Idle.is in
    step_told_lem _ _ c.block_right.ensures _ _ _ _ _ _ c.if-not-block_right.false c.session_in.ensures _ c.advance.ensures p.2 p.3 p.4 p.5

pub returns-in-Err-clause-gives : goal.returns-in-Err-clause-gives
returns-in-Err-clause-gives c =
    let p = stopped c.args.state.now c.session_in.result c.in-Err.is c.number-in-Err.ensures c.block_in.ensures c.fault_in.ensures in
    step_goes _ _ c.block_right.ensures _ _ _ _ _ _ c.if-not-block_right.false c.session_in.ensures _ c.advance.ensures p.0 p.1

pub returns-in-Err-clause-tells : goal.returns-in-Err-clause-tells
returns-in-Err-clause-tells c =
    let p = stopped c.args.state.now c.session_in.result c.in-Err.is c.number-in-Err.ensures c.block_in.ensures c.fault_in.ensures in
    step_told_lem _ _ c.block_right.ensures _ _ _ _ _ _ c.if-not-block_right.false c.session_in.ensures _ c.advance.ensures p.2 p.3 p.4 p.5
