-- `take_step` meets its contract: refusal 9, or the entry first and then the stores, the table's behind the reel's.
use mathlib.Core.Path.{refl}
use Rattle.commands.specs.Answers.{is_step}
use Rattle.steps.proofs.Outs.{taken_goes, taken_stops}
use Rattle.steps.proofs.Entered.{step_after, step_entry, step_objects}
use Rattle.steps.proofs.Readies.{filled_in, fills, sound_sizes, step_in}
use Rattle.worlds.specs.Worlds.{world_of}
use Rattle.worlds.proofs.Passing.{passed, room}
use native.Mathlib.Omega.{arith}
use Rattle.steps.proofs.steps.take_step.Goals as goal

pub entry_length-n-requires : goal.entry_length-n-requires
entry_length-n-requires c = step_in c.args.s c.args.mem.now c.args.reel.now _ c.requires.ready.sound c.args.p _ _ c.touched_by-touched.ensures c.requires.ready.storable

pub overflow_sub-s : goal.overflow_sub-s
overflow_sub-s c = omega (arith, (passed _ _ _ _ c.requires.ready.sound.right).used)

pub returns-then-s-n : goal.returns-then-s-n
returns-then-s-n c =
    let w = world_of c.args.k c.args.s c.args.mem.now c.args.reel.now c.args.table.now c.args.jrnl.now in
    taken_stops _ _ _ _ _ _ _ _ _ _ (step_entry w.core c.args.p _ c.requires.cut _ _ c.touched_by-touched.ensures) c.entry_length-n.ensures (step_objects w.core c.args.p _ c.requires.cut _ c.requires.after) c.requires.large _ _ c.if-s-n.true refl refl

pub enter-requires : goal.enter-requires
enter-requires c =
    let w = world_of c.args.k c.args.s c.args.mem.now c.args.reel.now c.args.table.now c.args.jrnl.now in
    let p = passed _ _ _ _ c.requires.ready.sound.right in (
      room w _ p _ _ c.entry_length-n.ensures c.if-s-n.false,
      omega (arith, p.journal_is, p.limit),
      step_in c.args.s c.args.mem.now c.args.reel.now _ c.requires.ready.sound c.args.p _ _ c.touched_by-touched.ensures c.requires.ready.storable,
      filled_in _ _ _ _ c.args.reel.now c.args.table.now _ _ c.requires _ c.touched_by-touched.ensures,
    )

pub store-requires : goal.store-requires
store-requires c = c.requires.ready.storable

pub fill_places-requires : goal.fill_places-requires
fill_places-requires c =
    let sizes = sound_sizes c.args.s c.args.mem.now c.args.reel.now _ c.requires.ready.sound in
    (fills _ _ _ _ c.args.reel.now c.args.table.now _ _ c.requires, omega (arith, c.requires.ready.storable.laid.room, sizes.reel_small))

pub returns : goal.returns
unfolding is_step
returns c =
    let w = world_of c.args.k c.args.s c.args.mem.now c.args.reel.now c.args.table.now c.args.jrnl.now in
    let long = c.entry_length-n.ensures in
    let fits = c.if-s-n.false in
    taken_goes _ _ _ _ _ _ _ _ _ _ (step_entry w.core c.args.p _ c.requires.cut _ _ c.touched_by-touched.ensures) long (step_objects w.core c.args.p _ c.requires.cut _ c.requires.after) c.requires.large _ _ _ _ _ _ refl fits (room w _ (passed _ _ _ _ c.requires.ready.sound.right) _ _ long fits) c.enter.ensures (step_after w.core c.args.p _ c.requires.cut _ _ _ _ c.requires.after c.store.ensures c.fill_places.ensures)
