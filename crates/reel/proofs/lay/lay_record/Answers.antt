-- `lay_record` meets its contract. So far the first i pieces are laid, and nothing else has changed.
use borrow.Author.Rules.{rules}
use native.Mathlib.Omega.{arith}
use mathlib.Core.Path.{◌≡◌}
use Rattle.lists.specs.Places.{gathered}
use Rattle.tape.specs.Objects.{pieces_to}
use Rattle.reel.proofs.Laid.{pieces_more, pieces_whole}
use Rattle.reel.proofs.lay.lay_record.Goals as goal

pub loop-i-init : goal.loop-i-init
unfolding pieces_to
loop-i-init c = search rules

pub loop-i-preserved : goal.loop-i-preserved
loop-i-preserved c = cc (pieces_more c.args.reel.now (gathered c.args.swb c.args.mem.now c.args.a c.args.n) c.args.p c.loop-i.i)

pub returns : goal.returns
returns c =
    let e : c.loop-i.i ≡ c.pieces-m.result = omega arith in
    cc (pieces_whole c.args.swb c.args.mem.now c.args.a c.args.n)
