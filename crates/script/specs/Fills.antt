-- Bytes put into a lent slice.
use Rattle.std.specs.Prelude.{Bool, ◌&&◌, List, [], ◌∷◌, ◌++◌, ℕ, zero, suc, ◌+◌, ◌-◌, ◌*◌, ◌/◌, ◌%◌, eqb, leb, ltb, length, take, replicate, Option, Some, None, Result, Ok, Err}
use Rattle.std.proofs.lemmas.List.Edits.{sets}
use Rattle.lists.specs.Pick.{pick}
use Rattle.script.specs.declared.Fault.{Fault}
use Rattle.script.specs.declared.Fault.TheVariants as fault
use Rattle.script.specs.Numbers.{digit_of}

-- as much of d as b holds, at b's front
abbrev pub copied : List ℕ → List ℕ → List ℕ
copied b d = sets b 0 (take (length b) d)

-- a line of which n bytes are there gets d if it holds it all
abbrev pub holds : List ℕ → ℕ → List ℕ → Bool
holds l n d = leb (n + length d) (length l)

unfoldable pub appended : List ℕ → ℕ → List ℕ → List ℕ
appended l n d = pick (holds l n d) (sets l n d) l

-- zeros from one place to another, where those are places in order
unfoldable pub wiped : List ℕ → ℕ → ℕ → List ℕ
wiped b from to = pick (leb from to && leb to (length b)) (sets b from (replicate (to - from) 0)) b

-- n bytes made from a seed
abbrev pub made : ℕ → ℕ → ℕ
made seed i = (seed + i * 7 + i / 256 * 13) % 256

unfoldable pub generated : ℕ → ℕ → List ℕ
generated seed zero = []
generated seed (suc n) = generated seed n ++ (made seed n ∷ [])

-- the byte that two hexadecimal digits give
unfoldable pub paired : Option ℕ → Option ℕ → Option ℕ
paired None b = None
paired (Some a) None = None
paired (Some a) (Some b) = Some (16 * a + b)

abbrev pub ahead : Option ℕ → List ℕ → List ℕ
ahead None t = []
ahead (Some x) t = x ∷ t

-- the bytes that pairs of hexadecimal digits give, up to the first pair that is none
unfoldable pub pairs : List ℕ → List ℕ
pairs [] = []
pairs (x ∷ []) = []
pairs (x ∷ (y ∷ t)) = ahead (paired (digit_of x) (digit_of y)) (pairs t)

-- a word read as pairs of digits, and its bytes put at a slice's front: how many there are, or what is wrong
unfoldable pub hex_answer : List ℕ → ℕ → Result ℕ Fault
hex_answer t room =
    pick (eqb (length t % 2) 1) (Err fault.HexWrong)
    (pick (ltb room (length t / 2)) (Err fault.BeyondBuffers)
    (pick (eqb (length (pairs t)) (length t / 2)) (Ok (length t / 2)) (Err fault.HexWrong)))

-- what the slice has then: where a digit is wrong, the bytes before it are there
unfoldable pub hex_filled : List ℕ → List ℕ → List ℕ
hex_filled t b = pick (eqb (length t % 2) 1) b (pick (ltb (length b) (length t / 2)) b (sets b 0 (pairs t)))
