-- `undo_none` meets its contract: refusal 8, or the newest entry brought back into memory; no reel and no table is lent.
use mathlib.Core.Bool.{not}
use mathlib.Core.Path.{ap}
use Rattle.worlds.proofs.Coupling.{coupler_passed}
use Rattle.steps.proofs.Sharing.{none_fits, none_goes, none_places, none_sizes, none_stops}
use native.Mathlib.Omega.{arith}
use Rattle.steps.proofs.shared.undo_none.Goals as goal

pub newest_entry-e-requires : goal.newest_entry-e-requires
newest_entry-e-requires c =
    let p = coupler_passed _ _ _ c.requires.right in
    (omega (arith, c.requires.long), omega (arith, p.used, p.journal_is))

pub entry_fits-requires : goal.entry_fits-requires
entry_fits-requires c = none_sizes _ _ _ c.requires.right

pub returns-then-not-entry_fits : goal.returns-then-not-entry_fits
returns-then-not-entry_fits c = none_stops _ c.args.mem.now c.args.jrnl.now c.requires _ _ c.newest_entry-e.ensures c.entry_fits.ensures (ap not c.if-not-entry_fits.true)

pub entry_length-n-requires : goal.entry_length-n-requires
entry_length-n-requires c = (none_fits _ c.args.mem.now c.args.jrnl.now c.requires _ _ c.newest_entry-e.ensures c.entry_fits.ensures (ap not c.if-not-entry_fits.false)).places

pub bring_entry_back-requires : goal.bring_entry_back-requires
bring_entry_back-requires c =
    let p = coupler_passed _ _ _ c.requires.right in
    let f = none_fits _ c.args.mem.now c.args.jrnl.now c.requires _ _ c.newest_entry-e.ensures c.entry_fits.ensures (ap not c.if-not-entry_fits.false) in (
      omega (arith, p.used, p.journal_is),
      f.inside,
      f.places,
      none_places _ c.args.mem.now c.args.jrnl.now c.requires _ _ c.newest_entry-e.ensures c.entry_fits.ensures (ap not c.if-not-entry_fits.false),
    )

pub overflow_sub-result : goal.overflow_sub-result
overflow_sub-result c =
    let f = none_fits _ c.args.mem.now c.args.jrnl.now c.requires _ _ c.newest_entry-e.ensures c.entry_fits.ensures (ap not c.if-not-entry_fits.false) in
    omega (arith, f.inside, c.entry_length-n.ensures)

pub returns : goal.returns
returns c = none_goes _ c.args.mem.now c.args.jrnl.now c.requires _ _ c.newest_entry-e.ensures c.entry_fits.ensures _ _ _ _ _ _ (ap not c.if-not-entry_fits.false) c.entry_length-n.ensures c.bring_entry_back.ensures
