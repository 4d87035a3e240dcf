-- `space_end` meets its contract: an arm for each stop.
use Rattle.motions.specs.Spaces.{space_end}
use Rattle.motions.proofs.spaces.space_end.Goals as goal

pub returns-in-Count : goal.returns-in-Count
unfolding space_end
returns-in-Count c = rw (c.in-Count.is, c.flag-tmk.ensures.is, c.flag-rev.ensures.is, c.residual_of-residual.ensures)

pub returns-in-Mark : goal.returns-in-Mark
unfolding space_end
returns-in-Mark c = rw (c.in-Mark.is, c.flag-rev.ensures.is, c.residual_of-residual.ensures)

pub returns-in-LogicalEnd : goal.returns-in-LogicalEnd
unfolding space_end
returns-in-LogicalEnd c = rw (c.in-LogicalEnd.is, c.flag-left.ensures.is, c.none_left.ensures, c.flag-tmk.ensures.is, c.flag-rev.ensures.is, c.residual_of-residual.ensures)

pub returns-then-r : goal.returns-then-r
unfolding space_end
returns-then-r c = rw (c.in-Nothing.is, c.if-r.true, c.flag-left.ensures.is, c.none_left.ensures, c.flag-tmk.ensures.is, c.residual_of-residual.ensures)

pub returns-else-r : goal.returns-else-r
unfolding space_end
returns-else-r c = rw (c.in-Nothing.is, c.if-r.false, c.flag-tmk.ensures.is, c.residual_of-residual.ensures)
