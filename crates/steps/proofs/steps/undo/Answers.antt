-- `undo` meets its contract: refusal 8 or 11, or the newest entry brought back.
use mathlib.Core.Bool.{not}
use mathlib.Core.Path.{ap, refl}
use Rattle.steps.proofs.Backs.{undo_fits, undo_goes, undo_lacks, undo_places, undo_stops}
use Rattle.steps.proofs.Readies.{sound_sizes}
use Rattle.worlds.proofs.Passing.{passed}
use native.Mathlib.Omega.{arith}
use Rattle.steps.proofs.steps.undo.Goals as goal

pub newest_entry-e-requires : goal.newest_entry-e-requires
newest_entry-e-requires c =
    let p = passed _ _ _ _ c.requires.sound.right in
    (omega (arith, c.requires.bare), omega (arith, p.used, p.journal_is))

pub entry_fits-requires : goal.entry_fits-requires
entry_fits-requires c = sound_sizes c.args.s c.args.mem.now c.args.reel.now _ c.requires.sound

pub returns-then-not-entry_fits-state_wrong : goal.returns-then-not-entry_fits-state_wrong
returns-then-not-entry_fits-state_wrong c = λ k. undo_stops _ _ _ _ _ _ _ _ c.newest_entry-e.ensures c.entry_fits.ensures c.state_wrong.ensures k _ (ap not c.if-not-entry_fits-state_wrong.true) refl refl

pub returns-then-too_small : goal.returns-then-too_small
returns-then-too_small c = λ k. undo_lacks _ _ _ _ _ _ _ _ c.newest_entry-e.ensures c.entry_fits.ensures c.state_wrong.ensures (ap not c.if-not-entry_fits-state_wrong.false) _ c.too_small.ensures k _ c.if-too_small.true refl refl

pub entry_length-n-requires : goal.entry_length-n-requires
entry_length-n-requires c =
    let z = sound_sizes c.args.s c.args.mem.now c.args.reel.now _ c.requires.sound in
    (undo_fits c.args.s c.args.mem.now c.args.reel.now c.args.table.now c.args.jrnl.now _ _ _ c.newest_entry-e.ensures c.entry_fits.ensures c.state_wrong.ensures z (ap not c.if-not-entry_fits-state_wrong.false)).places

pub bring_entry_back-requires : goal.bring_entry_back-requires
bring_entry_back-requires c =
    let z = sound_sizes c.args.s c.args.mem.now c.args.reel.now _ c.requires.sound in
    let f = undo_fits c.args.s c.args.mem.now c.args.reel.now c.args.table.now c.args.jrnl.now _ _ _ c.newest_entry-e.ensures c.entry_fits.ensures c.state_wrong.ensures z (ap not c.if-not-entry_fits-state_wrong.false) in
    let p = passed _ _ _ _ c.requires.sound.right in (
      omega (arith, p.used, p.journal_is),
      f.inside,
      f.places,
      undo_places c.args.s c.args.mem.now c.args.reel.now c.args.table.now c.args.jrnl.now _ _ _ c.newest_entry-e.ensures c.entry_fits.ensures c.state_wrong.ensures (ap not c.if-not-entry_fits-state_wrong.false) _ c.too_small.ensures z c.if-too_small.false,
    )

pub overflow_sub-result : goal.overflow_sub-result
overflow_sub-result c =
    let z = sound_sizes c.args.s c.args.mem.now c.args.reel.now _ c.requires.sound in
    let f = undo_fits c.args.s c.args.mem.now c.args.reel.now c.args.table.now c.args.jrnl.now _ _ _ c.newest_entry-e.ensures c.entry_fits.ensures c.state_wrong.ensures z (ap not c.if-not-entry_fits-state_wrong.false) in
    omega (arith, f.inside, c.entry_length-n.ensures)

pub returns : goal.returns
returns c = λ k. undo_goes _ _ _ _ _ _ _ _ c.newest_entry-e.ensures c.entry_fits.ensures c.state_wrong.ensures (ap not c.if-not-entry_fits-state_wrong.false) _ c.too_small.ensures k _ _ _ _ c.if-too_small.false c.entry_length-n.ensures c.bring_entry_back.ensures
