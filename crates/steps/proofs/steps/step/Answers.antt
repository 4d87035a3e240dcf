-- `step` meets its contract: refusal 11 for the objects before it, or for those after it, else the step.
use mathlib.Core.Path.{ap, sym, refl, ◌∙◌}
use Rattle.unit.specs.Steps.{too_small}
use Rattle.steps.proofs.Outs.{small_stops}
use Rattle.steps.proofs.Entered.{step_objects}
use Rattle.steps.proofs.Readies.{cut_counted}
use Rattle.unit.proofs.Rows.{small_now}
use Rattle.unit.proofs.Rows.{enough_before}
use Rattle.worlds.specs.Worlds.{world_of}
use Rattle.steps.proofs.steps.step.Goals as goal

pub returns-then-too_small : goal.returns-then-too_small
returns-then-too_small c = small_stops _ _ _ _ _ _ _ _ _ (small_now _ _ _ (sym c.too_small.ensures ∙ c.if-too_small.true)) refl refl

pub cut_for-c-requires : goal.cut_for-c-requires
cut_for-c-requires c = (enough_before _ _ _ (sym c.too_small.ensures ∙ c.if-too_small.false)).room

pub objects_after-top-requires : goal.objects_after-top-requires
objects_after-top-requires c = cut_counted _ c.args.table.now _ c.args.reel.now _ c.cut_for-c.ensures (sym c.too_small.ensures ∙ c.if-too_small.false)

pub returns-then-too_small-2 : goal.returns-then-too_small-2
returns-then-too_small-2 c =
    let w = world_of c.args.k c.args.s c.args.mem.now c.args.reel.now c.args.table.now c.args.jrnl.now in
    let top = step_objects w.core c.args.p _ c.cut_for-c.ensures _ c.objects_after-top.ensures in
    small_stops _ _ _ _ _ _ _ _ _ (sym (ap (too_small _ _) top) ∙ sym c.too_small-2.ensures ∙ c.if-too_small-2.true) refl refl

pub take_step-requires : goal.take_step-requires
take_step-requires c =
    record {
      ready = c.requires;
      cut = c.cut_for-c.ensures;
      after = c.objects_after-top.ensures;
      large = sym c.too_small-2.ensures ∙ c.if-too_small-2.false;
    }

pub returns : goal.returns
returns c = c.take_step.ensures
