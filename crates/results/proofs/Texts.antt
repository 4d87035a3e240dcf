-- Laws of the text of a result line.
use mathlib.Core.Path.{◌≡◌, sym, ap, ◌∙◌}
use mathlib.Core.List.{List, [], ◌∷◌, ◌++◌, append_assoc, append-nil}
use Prim.Native.Nat.{ℕ, ◌+◌, ◌-◌, ◌<◌}
use native.Mathlib.Nat.{add-zero, min-zero}
use native.Mathlib.Numerals.{add-one}
use lib.ListN.{length, take, get_or}
use lib.Seq.{take-nil, take-suc}
use Rattle.script.specs.Prints.{Put}
use Rattle.script.proofs.Printed.{put_more}
use Rattle.results.specs.Lines.{decimal, numbers_text}

-- nothing is put
pub put_empty : (o : List ℕ) (at : ℕ) → Put o at [] o at
put_empty o at = record { stored = rw (take-nil (length o - at)); next = rw (min-zero (length o - at), add-zero at) }

-- one number more
numbers_end : (l : List ℕ) (n : ℕ) → numbers_text (l ++ (n ∷ [])) ≡ numbers_text l ++ ((32 ∷ []) ++ decimal n)
unfolding numbers_text
numbers_end [] n = append-nil ((32 ∷ []) ++ decimal n)
numbers_end (m ∷ l) n = ap (λ (t : List ℕ). ((32 ∷ []) ++ decimal m) ++ t) (numbers_end l n) ∙ sym (append_assoc ((32 ∷ []) ++ decimal m) (numbers_text l) ((32 ∷ []) ++ decimal n))

module _ (f o o' o'' : List ℕ) (at i n r : ℕ) where
  pub numbers_more : i < length f → Put o at (numbers_text (take i f)) o' n → Put o' n ((32 ∷ []) ++ decimal (get_or f i 0)) o'' r → Put o at (numbers_text (take (i + 1) f)) o'' r
  numbers_more h p q = rw (add-one i, take-suc f i 0 h, numbers_end (take i f) (get_or f i 0)) (put_more o (numbers_text (take i f)) ((32 ∷ []) ++ decimal (get_or f i 0)) o' o'' at n r p q)
