-- `ts11_mount` meets its contract: what the journal's mount hands back is written, or nothing is.
use lib.ListN.{length}
use Rattle.stateblock.specs.Block.{session_in}
use Rattle.worlds.specs.Calls.{mount_on}
use Rattle.worlds.specs.declared.Session.{Session}
use Rattle.ts11.proofs.Ways.{left, mounts, refused_number, told_bad, untold, wrote, zero}
use Rattle.ts11.proofs.calls.ts11_mount.Goals as goal

pub returns-in-Ok : goal.returns-in-Ok
returns-in-Ok c =
    let p = untold c.in-Ok.is in
    mounts (λ (s : Session). mount_on s c.args.memory_length c.args.reel.now (length c.args.table.now) c.args.journal_length c.args.end c.args.online c.args.locked) _ c.args.state.now _ _ _ _ _ _ _ c.mount.ensures.outcome c.mount.ensures.table (zero c.in-Ok.is) (wrote _ (session_in c.args.state.now) c.in-Ok.is c.close.ensures) p.0 p.1

pub returns-in-Err : goal.returns-in-Err
returns-in-Err c =
    let p = told_bad c.in-Err.is c.block_in.ensures c.fault_in.ensures in
    mounts (λ (s : Session). mount_on s c.args.memory_length c.args.reel.now (length c.args.table.now) c.args.journal_length c.args.end c.args.online c.args.locked) _ c.args.state.now _ _ _ _ _ _ _ c.mount.ensures.outcome c.mount.ensures.table (refused_number c.in-Err.is c.number.ensures) (left _ (session_in c.args.state.now) c.in-Err.is) p.0 p.1
