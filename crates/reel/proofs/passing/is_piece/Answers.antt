-- `is_piece` meets its contract: to be that piece is to be the same block.
use mathlib.Core.Path.{refl, ◌∙◌}
use Rattle.reel.proofs.Pieces.{same_piece}
use Rattle.reel.proofs.passing.is_piece.Goals as goal

pub returns : goal.returns
returns c = c.eq.ensures ∙ same_piece _ _ c.args.b c.args.n c.args.i (λ n' i'. refl) refl refl
