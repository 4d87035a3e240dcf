-- `store_step` meets its contract: refusal 9, or the entry first and then the bytes.
use mathlib.Core.Path.{refl, ◌∙◌}
use Rattle.unit.proofs.Touches.{host_run}
use Rattle.worlds.proofs.Coupling.{coupler_passed}
use Rattle.steps.proofs.Sharing.{none_sizes, store_full, store_goes, store_room}
use native.Mathlib.Omega.{arith}
use Rattle.steps.proofs.shared.store_step.Goals as goal

pub overflow_add-n : goal.overflow_add-n
overflow_add-n c = omega (arith, c.requires.short)

pub overflow_sub-c : goal.overflow_sub-c
overflow_sub-c c = omega (arith, (coupler_passed _ _ _ c.requires.right).used)

pub returns-then-c-n : goal.returns-then-c-n
returns-then-c-n c = store_full _ c.args.mem.now c.args.jrnl.now _ c.args.bytes.now c.requires _ refl c.if-c-n.true

pub enter_run-requires : goal.enter_run-requires
enter_run-requires c =
    let sizes = none_sizes _ _ _ c.requires.right in (
      store_room _ c.args.mem.now c.args.jrnl.now _ c.args.bytes.now c.requires _ refl c.if-c-n.false,
      c.requires.inside,
      sizes.even,
      sizes.memory_small,
      c.host_touched-touched.ensures ∙ host_run _ _,
    )

pub put_host-requires : goal.put_host-requires
put_host-requires c = (c.requires.inside, (none_sizes _ _ _ c.requires.right).even)

pub overflow_add-result : goal.overflow_add-result
overflow_add-result c =
    let p = coupler_passed _ _ _ c.requires.right in
    omega (arith, p.used, p.limit, c.requires.short)

pub returns : goal.returns
returns c = store_goes _ c.args.mem.now c.args.jrnl.now _ c.args.bytes.now c.requires _ refl _ _ c.no_transport-t.ensures c.session_over-s.ensures _ _ _ c.host_touched-touched.ensures c.if-c-n.false c.enter_run.ensures c.put_host.ensures
