-- `lay_object` meets its contract: each kind of object is laid by its own call.
use borrow.Author.Rules.{rules}
use Rattle.tape.specs.Objects.{gap, images_of, mark}
use Rattle.motions.specs.Parts.{object_blocks}
use Rattle.storing.specs.Stored.{laid_object}
use Rattle.storing.proofs.Ways.{one_laid}
use Rattle.storing.proofs.stores.lay_object.Goals as goal

pub lay_mark-requires : goal.lay_mark-requires
unfolding object_blocks
lay_mark-requires c = rw c.in-Mark.is at c.requires.0

pub lay_gap-requires : goal.lay_gap-requires
unfolding object_blocks
lay_gap-requires c = rw c.in-Gap.is at c.requires.0

pub lay_record-requires : goal.lay_record-requires
unfolding object_blocks
lay_record-requires c = (rw c.in-Record.is at c.requires.0, search rules, search rules, search rules)

pub returns-in-Nothing : goal.returns-in-Nothing
unfolding laid_object images_of
returns-in-Nothing c = rw c.in-Nothing.is

pub returns-in-Mark : goal.returns-in-Mark
unfolding laid_object
returns-in-Mark c = rw c.in-Mark.is (one_laid _ _ _ mark c.lay_mark.ensures)

pub returns-in-Gap : goal.returns-in-Gap
unfolding laid_object
returns-in-Gap c = rw c.in-Gap.is (one_laid _ _ _ gap c.lay_gap.ensures)

pub returns-in-Record : goal.returns-in-Record
unfolding laid_object
returns-in-Record c = rw c.in-Record.is (one_laid _ _ _ _ c.lay_record.ensures)
