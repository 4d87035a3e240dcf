-- `hand` meets its contract: the parts that the call is handed come back.
use Rattle.std.proofs.Common.{refl, arith}
use Rattle.desk.proofs.Fronts.{front_back}
use Rattle.replayer.specs.Hands.{hand_on, hand_told}
use Rattle.replayer.proofs.turns.hand.Goals as goal

pub returns-clause-told : goal.returns-clause-told
unfolding hand_told
returns-clause-told c = rw (c.min-m.ensures, c.min-r.ensures, c.min-t.ensures, c.min-j.ensures, c.handed-h.ensures) at c.call.ensures.told

pub returns-clause-memory : goal.returns-clause-memory
unfolding hand_on
returns-clause-memory c =
    front_back c.min-m.result c.args.mem.now c.call.new.mem _ _ c.min-m.ensures (omega (arith, c.call.auto)) (rw (c.min-m.ensures, c.min-r.ensures, c.min-t.ensures, c.min-j.ensures, c.handed-h.ensures) at c.call.ensures.memory)

pub returns-clause-reel : goal.returns-clause-reel
unfolding hand_on
returns-clause-reel c =
    front_back c.min-r.result c.args.reel.now c.call.new.reel _ _ c.min-r.ensures (omega (arith, c.call.auto)) (rw (c.min-m.ensures, c.min-r.ensures, c.min-t.ensures, c.min-j.ensures, c.handed-h.ensures) at c.call.ensures.reel)

pub returns-clause-table : goal.returns-clause-table
unfolding hand_on
returns-clause-table c =
    front_back c.min-t.result c.args.table.now c.call.new.table _ _ c.min-t.ensures (omega (arith, c.call.auto)) (rw (c.min-m.ensures, c.min-r.ensures, c.min-t.ensures, c.min-j.ensures, c.handed-h.ensures) at c.call.ensures.table)

pub returns-clause-journal : goal.returns-clause-journal
unfolding hand_on
returns-clause-journal c =
    record {
      left = c.call.new.jrnl;
      whole = rw (c.min-j.ensures, c.handed-h.ensures) at c.call.auto.jrnl;
      leaves = rw (c.min-m.ensures, c.min-r.ensures, c.min-t.ensures, c.min-j.ensures, c.handed-h.ensures) at c.call.ensures.journal;
      stored = front_back c.min-j.result c.args.jrnl.now c.call.new.jrnl _ _ c.min-j.ensures (omega (arith, c.call.auto)) refl;
    }
