-- `pass` meets its contract: nothing ahead, or what the first block met says.
use mathlib.Core.Path.{ap, ◌∙◌}
use native.Mathlib.Omega.{arith}
use Rattle.std.specs.Prelude.{Ok}
use Rattle.reel.proofs.Meetings.{pass_met, pass_nothing}
use Rattle.reel.proofs.Pieces.{piece_counts}
use Rattle.tape.specs.Pass.{met_by_under}
use Rattle.reel.proofs.passing.pass.Goals as goal

pub returns-then-ahead-eq0 : goal.returns-then-ahead-eq0
returns-then-ahead-eq0 c = pass_nothing _ _ _ _ c.ahead.ensures c.if-ahead-eq0.true

pub record_met-requires : goal.record_met-requires
record_met-requires c = omega (arith, piece_counts _ _ _ _ c.read_block-b.ensures (c.in-Ok-Piece.is ∙ ap Ok (rw c.in-Ok-Piece.is at c.in-Ok-Piece.field-0-is)))

pub returns-in-Ok-Piece : goal.returns-in-Ok-Piece
unfolding met_by_under
returns-in-Ok-Piece c = pass_met _ _ _ _ c.ahead.ensures c.if-ahead-eq0.false c.first_met-k.ensures c.read_block-b.ensures (rw (c.in-Ok-Piece.is, rw c.in-Ok-Piece.is at c.in-Ok-Piece.field-0-is) c.record_met.ensures)

pub returns-in-Ok-Mark : goal.returns-in-Ok-Mark
unfolding met_by_under
returns-in-Ok-Mark c = pass_met _ _ _ _ c.ahead.ensures c.if-ahead-eq0.false c.first_met-k.ensures c.read_block-b.ensures (rw (c.in-Ok-Mark.is, rw c.in-Ok-Mark.is at c.in-Ok-Mark.field-0-is, c.beyond.ensures))

pub returns-in-Ok-Gap : goal.returns-in-Ok-Gap
unfolding met_by_under
returns-in-Ok-Gap c = pass_met _ _ _ _ c.ahead.ensures c.if-ahead-eq0.false c.first_met-k.ensures c.read_block-b.ensures (rw (c.in-Ok-Gap.is, rw c.in-Ok-Gap.is at c.in-Ok-Gap.field-0-is, c.beyond-in-Ok-Gap.ensures))

pub returns-in-Err : goal.returns-in-Err
unfolding met_by_under
returns-in-Err c = pass_met _ _ _ _ c.ahead.ensures c.if-ahead-eq0.false c.first_met-k.ensures c.read_block-b.ensures (rw (c.in-Err.is, c.first_met-k.ensures))
