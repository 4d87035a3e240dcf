-- `host_step` meets its contract: refusal 11 or 9, or the entry first and then the bytes.
use mathlib.Core.Path.{ap, refl, sym, ◌∙◌}
use Rattle.commands.specs.Answers.{is_step}
use lib.Seq.{sets}
use Rattle.entries.proofs.Joined.{run_bytes, run_whole}
use Rattle.unit.specs.Cores.{Core}
use Rattle.unit.proofs.Touches.{host_run}
use Rattle.steps.proofs.Outs.{small_stops, taken_goes, taken_stops}
use Rattle.steps.proofs.Entered.{store_after, store_entry, store_right}
use Rattle.steps.proofs.Readies.{sound_sizes, store_in}
use Rattle.unit.proofs.Rows.{small_now}
use Rattle.worlds.specs.Worlds.{world_of}
use Rattle.worlds.proofs.Passing.{passed, room}
use native.Mathlib.Omega.{arith}
use Rattle.steps.proofs.steps.host_step.Goals as goal

pub returns-then-too_small : goal.returns-then-too_small
returns-then-too_small c = small_stops _ _ _ _ _ _ _ _ _ (small_now _ _ _ (sym c.too_small.ensures ∙ c.if-too_small.true)) refl refl

pub entry_length-n-requires : goal.entry_length-n-requires
entry_length-n-requires c = store_in c.args.s c.args.mem.now c.args.reel.now _ c.requires.sound _ c.args.bytes.now _ c.host_touched-touched.ensures c.requires.inside

pub overflow_sub-s : goal.overflow_sub-s
overflow_sub-s c = omega (arith, (passed _ _ _ _ c.requires.sound.right).used)

pub returns-then-s-n : goal.returns-then-s-n
returns-then-s-n c =
    let w = world_of 0 c.args.s c.args.mem.now c.args.reel.now c.args.table.now c.args.jrnl.now in
    let right = store_right _ _ _ c.requires.short c.requires.inside in
    taken_stops _ _ _ _ _ _ _ _ _ _ (store_entry w.core _ _ right _ _ c.host_touched-touched.ensures) c.entry_length-n.ensures (ap (λ (d : Core). d.objects) (store_after w.core _ c.args.bytes.now right _ refl)) (sym c.too_small.ensures ∙ c.if-too_small.false) _ _ c.if-s-n.true refl refl

pub enter_run-requires : goal.enter_run-requires
enter_run-requires c =
    let w = world_of 0 c.args.s c.args.mem.now c.args.reel.now c.args.table.now c.args.jrnl.now in
    let touched = c.host_touched-touched.ensures ∙ host_run _ _ in
    let sizes = sound_sizes c.args.s c.args.mem.now c.args.reel.now _ c.requires.sound in
    let long = run_whole (record { unit = c.args.s.unit; objects = c.args.s.objects; touched = _; transport = 0 }) _ _ touched in (
      omega (arith, long, room w _ (passed _ _ _ _ c.requires.sound.right) _ _ c.entry_length-n.ensures c.if-s-n.false),
      c.requires.inside,
      sizes.even,
      sizes.memory_small,
      touched,
    )

pub put_host-requires : goal.put_host-requires
put_host-requires c = (c.requires.inside, (sound_sizes c.args.s c.args.mem.now c.args.reel.now _ c.requires.sound).even)

pub returns : goal.returns
unfolding is_step
returns c =
    let w = world_of 0 c.args.s c.args.mem.now c.args.reel.now c.args.table.now c.args.jrnl.now in
    let right = store_right _ _ _ c.requires.short c.requires.inside in
    let touched = c.host_touched-touched.ensures in
    let long = c.entry_length-n.ensures in
    let fits = c.if-s-n.false in
    let after = store_after w.core _ _ right _ c.put_host.ensures in
    taken_goes _ c.args.s _ _ _ _ _ _ _ _ (store_entry w.core _ _ right _ _ touched) long (ap (λ (d : Core). d.objects) after) (sym c.too_small.ensures ∙ c.if-too_small.false) _ _ _ _ _ _ refl fits (room w _ (passed _ _ _ _ c.requires.sound.right) _ _ long fits) (c.enter_run.ensures ∙ sym (ap (sets c.args.jrnl.now c.args.s.used) (run_bytes _ c.args.mem.now c.args.reel.now c.args.table.now _ _ (touched ∙ host_run _ _)))) after
