-- A reel is a list of objects: records with their bytes, tape marks and erased gaps.
use Rattle.std.specs.Prelude.{◌≡◌, List, [], ◌∷◌, ◌++◌, ℕ, suc, ◌+◌, ◌*◌, ◌≤◌, length, take, drop}
use Rattle.lists.specs.Pick.{Always}
use Rattle.tape.specs.Numbers.{block_bytes, data_bytes, pieces_of, record_limit}
use Rattle.tape.specs.Layout.{block_of, gap_kind, mark_kind, piece_kind}

pub data Object : Type 0 where
  record_of : List ℕ → Object
  mark : Object
  gap : Object

-- "Records: 1 to [the limit] bytes."
abbrev pub AllowedUnder : ℕ → Object → Type 0
AllowedUnder limit (record_of d) = (1 ≤ length d) × (length d ≤ limit)
AllowedUnder limit mark = Always
AllowedUnder limit gap = Always

pub data AllAllowedUnder (limit : ℕ) : List Object → Type 0 where
  none : AllAllowedUnder limit []
  also : {o : Object} {os : List Object} → AllowedUnder limit o → AllAllowedUnder limit os → AllAllowedUnder limit (o ∷ os)

abbrev pub Allowed : Object → Type 0
Allowed = AllowedUnder record_limit

abbrev pub AllAllowed : List Object → Type 0
AllAllowed = AllAllowedUnder record_limit

-- "A record of n bytes takes n/504 blocks rounded up .. Marks and gaps are one block"
unfoldable pub blocks_in : Object → ℕ
blocks_in (record_of d) = pieces_of (length d)
blocks_in mark = 1
blocks_in gap = 1

-- piece i of a record: "indices run from 0, each piece repeats n"
unfoldable pub piece_of : List ℕ → ℕ → List ℕ
piece_of d i = block_of piece_kind (length d) i (take data_bytes (drop (data_bytes * i) d))

-- the first m pieces of a record
unfoldable pub pieces_to : List ℕ → ℕ → List ℕ
pieces_to d ℕ.zero = []
pieces_to d (suc m) = pieces_to d m ++ piece_of d m

-- the blocks of an object: "Marks and gaps are one block, all else 0."
unfoldable pub image_of : Object → List ℕ
image_of (record_of d) = pieces_to d (pieces_of (length d))
image_of mark = block_of mark_kind 0 0 []
image_of gap = block_of gap_kind 0 0 []

unfoldable pub blocks_of : List Object → ℕ
blocks_of [] = 0
blocks_of (o ∷ os) = blocks_in o + blocks_of os

unfoldable pub images_of : List Object → List ℕ
images_of [] = []
images_of (o ∷ os) = image_of o ++ images_of os

-- the blocks of s below e are exactly the blocks of the objects os, whose records are no longer than the limit
pub record HoldsUnder (limit : ℕ) (s : List ℕ) (e : ℕ) (os : List Object) : Type 0 where
  pub allowed : AllAllowedUnder limit os
  pub ends : blocks_of os ≡ e
  pub image : take (block_bytes * e) s ≡ images_of os

abbrev pub Holds : List ℕ → ℕ → List Object → Type 0
Holds = HoldsUnder record_limit

-- "A reel is well formed when the blocks below the end are whole objects; those at or above may hold anything."
abbrev pub WellFormed : List ℕ → ℕ → Type 0
WellFormed s e = (os : List Object) × Holds s e os

-- object o stands at block p of s
abbrev pub StandsAt : List ℕ → ℕ → Object → Type 0
StandsAt s p o = take (block_bytes * blocks_in o) (drop (block_bytes * p) s) ≡ image_of o
