-- `marks_at` meets its contract.
use borrow.Author.Rules.{rules}
use Rattle.index.specs.Cutting.{marks_at}
use Rattle.index.proofs.Counted.{mark_counted}
use Rattle.index.proofs.cutting.marks_at.Goals as goal

pub returns-then-m-eq0 : goal.returns-then-m-eq0
unfolding marks_at
returns-then-m-eq0 c = search rules

pub returns : goal.returns
returns c = mark_counted c.args.table.now c.args.reel.now c.args.m _ _ _ _ c.if-m-eq0.false c.number_at-marks.ensures c.number_at.ensures c.kind_at-kind.ensures c.from.ensures
