-- `entry_fits` is its definition.
use mathlib.Core.Path.{◌∙◌}
use native.Mathlib.Omega.{arith}
use Rattle.entries.proofs.Fitting.{fit_by, places_in_lem, unfit}
use Rattle.entries.proofs.restoring.entry_fits.Goals as goal

pub saved_length-requires : goal.saved_length-requires
saved_length-requires c = places_in_lem c.args.e c.args.used c.args.mounted _ _ c.args.top _ _ c.eq.ensures c.touched_fits.ensures c.requires c.if-right.true

pub overflow_add-result : goal.overflow_add-result
overflow_add-result c =
    let i = places_in_lem c.args.e c.args.used c.args.mounted _ _ c.args.top _ _ c.eq.ensures c.touched_fits.ensures c.requires c.if-right.true in
    omega (arith, c.saved_length.ensures, i.in_memory, i.message_in_memory, i.in_reel, i.sizes.memory_small, i.sizes.reel_small)

pub returns-then-right : goal.returns-then-right
returns-then-right c = fit_by _ _ _ _ _ _ _ _ c.eq.ensures c.touched_fits.ensures _ c.if-right.true c.saved_length.ensures

pub returns-else-right : goal.returns-else-right
returns-else-right c = c.if-right.false ∙ unfit _ _ _ _ _ _ _ _ c.eq.ensures c.touched_fits.ensures c.if-right.false
