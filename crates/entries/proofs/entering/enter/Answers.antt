-- `enter` meets its contract: what is saved goes into the entry's frame.
use native.Mathlib.Omega.{arith}
use Rattle.entries.proofs.Joined.{entry_entered, entry_whole}
use borrow.Author.Rules.{rules}
use Rattle.entries.proofs.entering.enter.Goals as goal

pub frame-requires : goal.frame-requires
frame-requires c = omega (arith, c.requires.0, c.requires.1, c.saved_length-saved.ensures, entry_whole c.args.e)

pub save-requires : goal.save-requires
save-requires c =
    let p = c.requires in
    search rules

pub slice_bounds-save-end : goal.slice_bounds-save-end
slice_bounds-save-end c = omega (arith, c.requires.0, c.saved_length-saved.ensures, entry_whole c.args.e)

pub returns : goal.returns
returns c = entry_entered c.args.e c.args.mem.now c.args.reel.now c.args.table.now c.args.jrnl.now _ _ c.args.used _ c.requires.0 c.saved_length-saved.ensures c.frame.ensures c.save.ensures
