-- `pieces_met` meets its contract. The pieces from the j-th on say what all of them say; what is left of the m pieces falls.
use mathlib.Core.Path.{sym, ◌∙◌}
use Rattle.reel.proofs.Walks.{pieces_end, pieces_pass, pieces_stop}
use Rattle.reel.proofs.passing.Way.pieces_met.Goals as goal

pub returns-then-not-is_piece : goal.returns-then-not-is_piece
returns-then-not-is_piece c = pieces_stop _ _ _ _ _ _ _ c.loop-j-test.true c.order_met-i.ensures c.read_block-b.ensures (sym c.is_piece.ensures ∙ c.if-not-is_piece.true) c.fault_of.ensures ∙ c.loop-j.invariant

pub loop-j-preserved : goal.loop-j-preserved
loop-j-preserved c = sym (pieces_pass _ _ _ _ _ _ _ c.loop-j-test.true c.order_met-i.ensures c.read_block-b.ensures (sym c.is_piece.ensures ∙ c.if-not-is_piece.false)) ∙ c.loop-j.invariant

pub returns : goal.returns
returns c = pieces_end _ _ _ _ _ _ _ c.loop-j-test.false ∙ c.loop-j.invariant
