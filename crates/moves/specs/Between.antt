-- Positions and the objects between them: what "done" means for a space or a skip.
use Rattle.std.specs.Prelude.{Bool, ◌≡◌, List, [], ◌∷◌, ◌++◌, ℕ, ◌+◌}
use Rattle.lists.specs.Pick.{pick}
use Rattle.tape.specs.Objects.{Object, record_of, mark, gap, blocks_of}

-- "the position is 0 or just after an object": p is the end of some of the first objects
pub record Bound (os : List Object) (p : ℕ) : Type 0 where
  pub before : List Object
  pub after : List Object
  pub whole : os ≡ before ++ after
  pub place : blocks_of before ≡ p

-- the objects that lie between positions p and q, passed either way
pub record Between (os : List Object) (reverse : Bool) (p q : ℕ) (mid : List Object) : Type 0 where
  pub before : List Object
  pub after : List Object
  pub whole : os ≡ before ++ (mid ++ after)
  pub from : p ≡ pick reverse (blocks_of (before ++ mid)) (blocks_of before)
  pub to : q ≡ pick reverse (blocks_of before) (blocks_of (before ++ mid))

-- how many records, or how many marks, there are among objects
unfoldable pub count_in : Bool → List Object → ℕ
count_in marks [] = 0
count_in marks (record_of d ∷ os) = pick marks 0 1 + count_in marks os
count_in marks (mark ∷ os) = pick marks 1 0 + count_in marks os
count_in marks (gap ∷ os) = count_in marks os

-- nothing but gaps
pub data Gaps : List Object → Type 0 where
  no_gap : Gaps []
  one_gap : {os : List Object} → Gaps os → Gaps (gap ∷ os)

-- the gaps passed on the way to the object o, and o behind them, in the order in which they lie
abbrev pub with_gaps : Bool → List Object → Object → List Object
with_gaps reverse gaps o = pick reverse (o ∷ gaps) (gaps ++ (o ∷ []))
