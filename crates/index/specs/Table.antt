-- "Keep a table in a lent slice: for every object its first block and the number of marks before it." (02, [8])
use Rattle.std.specs.Prelude.{List, [], ◌∷◌, ◌++◌, ◌≡◌, ℕ, zero, suc, ◌+◌, ◌*◌, ◌/◌, min, length, take}
use Rattle.lists.specs.Fours.{number_at, number_bytes}
use Rattle.tape.specs.Afresh.{objects_in}
use Rattle.tape.specs.Objects.{Object, blocks_in, gap, mark, record_of}

-- "eight bytes for each table place"
abbrev pub place_length : ℕ
place_length = 8

-- a place: first block, then marks before it, four bytes each
abbrev pub place_bytes : ℕ → ℕ → List ℕ
place_bytes b k = number_bytes b ++ number_bytes k

-- the marks among objects
unfoldable pub marks_in : Object → ℕ
marks_in (record_of d) = 0
marks_in mark = 1
marks_in gap = 0

unfoldable pub marks_of : List Object → ℕ
marks_of [] = 0
marks_of (o ∷ os) = marks_in o + marks_of os

-- the places of objects in a row, the first of them at block b with k marks before it
unfoldable pub table_from : ℕ → ℕ → List Object → List ℕ
table_from b k [] = []
table_from b k (o ∷ os) = place_bytes b k ++ table_from (b + blocks_in o) (k + marks_in o) os

-- n places in a row, a block apart, with k marks before each: what a gap and the object behind it get
unfoldable pub places_row : ℕ → ℕ → ℕ → List ℕ
places_row b k zero = []
places_row b k (suc n) = place_bytes b k ++ places_row (b + 1) k n

-- the table of a reel's objects
abbrev pub table_of : List Object → List ℕ
table_of os = table_from 0 0 os

-- place i of a table, whatever bytes stand there
abbrev pub first_block : List ℕ → ℕ → ℕ
first_block tb i = number_at tb (place_length * i)

abbrev pub marks_before : List ℕ → ℕ → ℕ
marks_before tb i = number_at tb (place_length * i + 4)

-- how many places a slice of n bytes has: whole ones, and no more than a count of four bytes can say (docs/DECISIONS.md, "A count of places has four bytes")
abbrev pub places_limit : ℕ
places_limit = 4294967295

abbrev pub places_in : ℕ → ℕ
places_in n = min (n / place_length) places_limit

-- of a lent table of which n places are used, the used part. "the used part alone is promised"
unfoldable pub used_places : ℕ → List ℕ → List ℕ
used_places n tb = take (place_length * n) tb

-- "it is .. the table worked out afresh from the reel": n places of tb are used, and they are the table of the objects of s below e
pub record Indexed (s : List ℕ) (e : ℕ) (tb : List ℕ) (n : ℕ) : Type 0 where
  pub count : n ≡ length (objects_in s e)
  pub used : used_places n tb ≡ table_of (objects_in s e)
