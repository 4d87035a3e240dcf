-- `record_met` meets its contract: a record that is not due, and one whose pieces are walked over.
use mathlib.Core.Path.{refl}
use Rattle.reel.proofs.Meetings.{record_cut, record_due}
use Rattle.reel.proofs.passing.Way.record_met.Goals as goal

pub returns-then-not-due : goal.returns-then-not-due
returns-then-not-due c = record_cut _ _ _ _ _ _ c.pieces-m.ensures c.order_met.ensures c.ahead.ensures c.if-not-due.true c.first_met.ensures

pub returns : goal.returns
returns c = record_due _ _ _ _ _ _ c.pieces-m.ensures c.order_met.ensures c.ahead.ensures c.if-not-due.false refl c.beyond.ensures c.pieces_met.ensures
