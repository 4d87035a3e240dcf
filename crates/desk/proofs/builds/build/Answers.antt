-- `build` meets its contract: the parts within the sizes are lent and come back.
use Rattle.std.proofs.Common.{ap, ◌∙◌, arith}
use Rattle.desk.specs.Turns.{settled}
use Rattle.desk.proofs.Fronts.{front_back}
use Rattle.desk.proofs.builds.build.Goals as goal

pub returns-clause-turn : goal.returns-clause-turn
returns-clause-turn c = c.settle.ensures ∙ ap (settled c.args.d) (rw (c.min-m.ensures, c.min-r.ensures) at c.build_at.ensures.answer)

pub returns-clause-memory : goal.returns-clause-memory
returns-clause-memory c =
    front_back c.min-m.result c.args.mem.now c.build_at.new.mem _ _ c.min-m.ensures (omega (arith, c.build_at.auto)) (rw c.min-m.ensures at c.build_at.ensures.memory)

pub returns-clause-reel : goal.returns-clause-reel
returns-clause-reel c =
    front_back c.min-r.result c.args.reel.now c.build_at.new.reel _ _ c.min-r.ensures (omega (arith, c.build_at.auto)) (rw c.min-r.ensures at c.build_at.ensures.reel)
