-- `bring_entry_back` meets its contract: what it lends is what the entry saved.
use native.Mathlib.Omega.{arith}
use Rattle.entries.proofs.Joined.{entry_whole}
use Rattle.entries.proofs.Used.{brought_as, saved_lent, saved_read}
use Rattle.entries.proofs.restoring.bring_entry_back.Goals as goal

pub overflow_sub-head : goal.overflow_sub-head
overflow_sub-head c = omega (arith, c.requires.1, entry_whole c.args.e)

pub overflow_sub-from : goal.overflow_sub-from
overflow_sub-from c = omega (arith, c.requires.1, c.saved_length.ensures, entry_whole c.args.e)

pub bring_back-requires : goal.bring_back-requires
bring_back-requires c = (saved_lent c.args.e c.args.jrnl.now c.args.used _ c.requires.0 c.requires.1 c.saved_length.ensures, c.requires.2, c.requires.3)

pub returns : goal.returns
returns c = brought_as c.args.e.touched _ _ _ _ _ _ _ _ (saved_read c.args.e c.args.jrnl.now c.args.used _ c.requires.0 c.requires.1 c.saved_length.ensures) c.bring_back.ensures
