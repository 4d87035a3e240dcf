-- The words of a line: runs of bytes that are not blank. A byte is blank if it is below 33.
use Rattle.std.specs.Prelude.{Bool, true, false, List, [], ◌∷◌, ℕ, zero, suc, ◌+◌, ◌-◌, eqb, ltb, length, take, drop, Option, Some, None, bytes_eq}
use Rattle.std.specs.Bool.{beq}
use Rattle.lists.specs.Pick.{pick}

-- how many bytes at the front of a text are blank, or are not
unfoldable pub spanned : Bool → List ℕ → ℕ
spanned blank [] = 0
spanned blank (x ∷ t) = pick (beq (ltb x 33) blank) (suc (spanned blank t)) 0

-- where the first word at or behind a place starts, and where it ends; the text's length where there is none
abbrev pub starts_from : List ℕ → ℕ → ℕ
starts_from t at = at + spanned true (drop at t)

abbrev pub ends_from : List ℕ → ℕ → ℕ
ends_from t at = starts_from t at + spanned false (drop (starts_from t at) t)

-- where the first k words are over
unfoldable pub over : List ℕ → ℕ → ℕ
over t zero = 0
over t (suc k) = ends_from t (over t k)

-- word k, counted from 0: where it starts, where it ends, and its bytes
unfoldable pub word_start : List ℕ → ℕ → ℕ
word_start t k = starts_from t (over t k)

unfoldable pub word_end : List ℕ → ℕ → ℕ
word_end t k = over t (suc k)

abbrev pub part : List ℕ → ℕ → ℕ → List ℕ
part t start end = take (end - start) (drop start t)

unfoldable pub word_from : List ℕ → ℕ → List ℕ
word_from t k = part t (word_start t k) (word_end t k)

-- where the last word ends; 0 where there is none
unfoldable pub last_end : List ℕ → ℕ
last_end [] = 0
last_end (x ∷ t) = pick (eqb (last_end t) 0) (pick (ltb x 33) 0 1) (suc (last_end t))

-- the first of the n words from word k on that is w
unfoldable pub place_from : List ℕ → List ℕ → ℕ → ℕ → Option ℕ
place_from l w k zero = None
place_from l w k (suc n) = pick (bytes_eq (word_from l k) w) (Some k) (place_from l w (suc k) n)

-- which word of a list w is: a list has no more words than bytes, and beyond them all are empty
abbrev pub place_of : List ℕ → List ℕ → Option ℕ
place_of l w = place_from l w 0 (length l)
