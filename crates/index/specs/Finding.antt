-- What is found in a table of n places, of whatever bytes. A table too small for its count has no answer.
use Rattle.std.specs.Prelude.{Option, Some, None, List, [], ◌∷◌, ◌++◌, ◌≡◌, ℕ, ◌+◌, ◌-◌, ◌≤◌, ◌<◌, eqb, leb, ltb, length}
use Rattle.lists.specs.Pick.{pick}
use Rattle.tape.specs.Objects.{Object, blocks_in, blocks_of, mark}
use Rattle.index.specs.Halving.{halved, of_blocks, of_marks}
use Rattle.index.specs.Table.{marks_of, places_in}

-- where file f begins: the first place with f marks before it
unfoldable pub file_found : List ℕ → ℕ → ℕ → Option ℕ
file_found tb n f =
    pick (ltb (places_in (length tb)) n) None
    (pick (ltb (halved tb of_marks f n) n) (Some (halved tb of_marks f n)) None)

-- the object that holds block b of a reel recorded up to e: the last place whose first block is no more than b
unfoldable pub block_found : List ℕ → ℕ → ℕ → ℕ → Option ℕ
block_found tb n e b =
    pick (ltb (places_in (length tb)) n) None
    (pick (leb e b) None
    (pick (eqb (halved tb of_blocks (b + 1) n) 0) None (Some (halved tb of_blocks (b + 1) n - 1))))

-- these objects are whole files: there are none, or the last is a mark
pub data Filed : List Object → Type 0 where
  no_file : Filed []
  files : (os : List Object) → Filed (os ++ mark ∷ [])

-- file f of the objects os begins with the one of number i: file 0 with the first, another with the one after mark f
pub record FileBegins (os : List Object) (f i : ℕ) : Type 0 where
  pub before : List Object
  pub object : Object
  pub after : List Object
  pub whole : os ≡ before ++ object ∷ after
  pub place : i ≡ length before
  pub filed : Filed before
  pub marks : marks_of before ≡ f

-- the object of number i holds block b
pub record HoldsBlock (os : List Object) (b i : ℕ) : Type 0 where
  pub before : List Object
  pub object : Object
  pub after : List Object
  pub whole : os ≡ before ++ object ∷ after
  pub place : i ≡ length before
  pub from : blocks_of before ≤ b
  pub below : b < blocks_of before + blocks_in object
