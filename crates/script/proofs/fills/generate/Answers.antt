-- `generate` meets its contract. So far the first i bytes are there.
use mathlib.Core.Path.{◌∙◌, refl}
use Rattle.script.specs.Fills.{generated}
use Rattle.script.proofs.Filled.{generate_end, generate_more}
use native.Mathlib.Omega.{arith}
use Rattle.script.proofs.fills.generate.Goals as goal

pub loop-i-init : goal.loop-i-init
unfolding generated
loop-i-init c = refl

pub loop-i-preserved : goal.loop-i-preserved
loop-i-preserved c =
    let l = c.loop-i in
    generate_more c.args.b.now l.b c.args.seed l.i l.invariant

pub returns : goal.returns
returns c =
    let l = c.loop-i in
    l.invariant ∙ generate_end c.args.b.now c.args.seed l.i (omega arith)
