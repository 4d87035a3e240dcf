-- What a Position passed: "The residual counts .. records or marks for Position modes 0 to 3" (01)
use Rattle.std.specs.Prelude.{◌≡◌, List, ℕ, ◌+◌}
use Rattle.tape.specs.Objects.{Object}
use Rattle.signals.specs.Residuals.{residual_word}
use Rattle.moves.specs.Between.{Between, count_in}
use Rattle.moves.specs.Counting.{how_many, of_marks}
use Rattle.moves.specs.declared.spacing.Count.{Count}
use Rattle.moves.specs.declared.spacing.Rule.{Rule}
use Rattle.motions.specs.declared.parts.Ending.{Ending}

-- the objects between the two positions: those that count and the residual make up the count asked, and class 0 leaves none of it
pub record SpacedPast (os : List Object) (r : Rule) (p : ℕ) (count : Count) (x : Ending) : Type 0 where
  pub mid : List Object
  pub between : Between os r.reverse p x.tape.position mid
  pub counted : count_in (of_marks count) mid + residual_word x.end.residual ≡ how_many count
  pub whole : x.end.class ≡ 0 → residual_word x.end.residual ≡ 0
