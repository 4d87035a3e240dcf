-- `lay_piece` meets its contract: the bytes gathered for the piece are the record's.
use native.Mathlib.Omega.{arith}
use Rattle.tape.proofs.PieceRun.{length_piece}
use Rattle.reel.proofs.Laid.{part_laid, piece_laid}
use Rattle.reel.proofs.lay.lay_piece.Goals as goal

pub returns : goal.returns
returns c =
    let used = c.min-used.ensures in
    part_laid _ _ _ _ (length_piece _ _) (omega arith) (piece_laid _ _ _ _ _ _ _ (omega arith) used c.lay_block.ensures)
