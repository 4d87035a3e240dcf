-- "Letter, first block, record length; E gives the recorded end ..; a gap prints G and its block." (01, The listing)
use Rattle.std.specs.Prelude.{List, [], ◌∷◌, ◌++◌, ℕ, ◌+◌, length}
use Rattle.tape.specs.Letters.{letter_of}
use Rattle.tape.specs.declared.BlockFault.{BlockFault}
use Rattle.tape.specs.Objects.{Object, blocks_in, gap, mark, record_of}
use Rattle.script.specs.Spelling.{spelling}

-- in the fewest digits
abbrev pub decimal : ℕ → List ℕ
decimal n = spelling 10 1 n

-- a letter's code, a blank, a number and a line end
unfoldable pub number_line : ℕ → ℕ → List ℕ
number_line letter k = letter ∷ 32 ∷ (decimal k ++ (10 ∷ []))

-- R, M, G, E, X
abbrev pub letter_r : ℕ
letter_r = 82

abbrev pub letter_m : ℕ
letter_m = 77

abbrev pub letter_g : ℕ
letter_g = 71

abbrev pub letter_e : ℕ
letter_e = 69

abbrev pub letter_x : ℕ
letter_x = 88

unfoldable pub record_line : ℕ → ℕ → List ℕ
record_line p n = letter_r ∷ 32 ∷ (decimal p ++ (32 ∷ (decimal n ++ (10 ∷ []))))

-- a bad block and the letter of its fault: `X 3 C`
unfoldable pub bad_line : BlockFault → ℕ → List ℕ
bad_line why k = letter_x ∷ 32 ∷ (decimal k ++ (32 ∷ letter_of why ∷ 10 ∷ []))

-- the line of the object whose first block is p
unfoldable pub line_of : ℕ → Object → List ℕ
line_of p (record_of d) = record_line p (length d)
line_of p mark = number_line letter_m p
line_of p gap = number_line letter_g p

-- the lines of objects in a row, the first of them at block p
unfoldable pub lines_of : ℕ → List Object → List ℕ
lines_of p [] = []
lines_of p (o ∷ os) = line_of p o ++ lines_of (p + blocks_in o) os
