-- `carry_out` meets its contract: three commands apart, and all else by its motion.
use borrow.Enum.Refused.{opened}
use mathlib.Core.Path.{ap, ◌∙◌}
use Rattle.std.specs.Prelude.{Some}
use Rattle.commands.specs.Ends.{motion_plan}
use Rattle.commands.specs.Commands.{carried_out_under}
use Rattle.commands.proofs.Moving.{ends_as_moved}
use Rattle.commands.proofs.carried.carry_out.Goals as goal

pub characterize-requires : goal.characterize-requires
characterize-requires c = c.requires.1 (ap Some c.in-WriteCharacteristics.is)

pub returns-in-WriteCharacteristics : goal.returns-in-WriteCharacteristics
unfolding carried_out_under
returns-in-WriteCharacteristics c = rw c.in-WriteCharacteristics.is c.characterize.ensures

pub returns-in-Release : goal.returns-in-Release
unfolding carried_out_under
returns-in-Release c = rw c.in-Release.is c.release.ensures

pub returns-in-Unload : goal.returns-in-Unload
unfolding carried_out_under
returns-in-Unload c = rw c.in-Unload.is c.unload.ensures

pub returns : goal.returns
returns c =
    c.told_course.ensures
    ∙ ap (motion_plan c.args.u c.args.h.ie) c.move_tape.ensures
    ∙ ends_as_moved c.args.u c.args.mem.now c.args.reel.now c.args.h c.args.p c.args.c (opened c.in_default.in_default-own.keys2) (opened c.in_default-c.in_default-c-own.keys2) (opened c.in_default-c-2.in_default-c-2-own.keys2)
