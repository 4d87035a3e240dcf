-- What is put, line after line, is what the definitions list.
use mathlib.Core.Path.{◌≡◌, ap, ◌∙◌}
use mathlib.Core.Bool.{false}
use mathlib.Core.List.{List, [], ◌∷◌, ◌++◌, append_assoc}
use Prim.Native.Nat.{ℕ, suc, ◌-◌, ◌≤◌}
use native.Mathlib.Nat.{sub-zero}
use native.Mathlib.Omega.{arith}
use lib.ListN.{length, take}
use lib.Seq.{length-sets, sets, take_all, take-nil}
use Rattle.lists.proofs.Stores.{sets_part}
use Rattle.script.specs.Prints.{Put}
use Rattle.script.proofs.Printed.{put_more}
use Rattle.tape.specs.Listing.{examined}
use Rattle.tape.specs.Pass.{passed}
use Rattle.tape.specs.declared.ImageFault.{ImageFault}
use Rattle.tape.specs.declared.Met.{Met}
use Rattle.lister.specs.Lines.{decimal, record_line}
use Rattle.lister.specs.Listed.{lines_from, listed, listed_as, listing_limit, met_line, met_next}
use Rattle.lister.proofs.Short.{listed_short}
use Rattle.std.specs.Prelude.{Result}
use Rattle.tape.specs.declared.Damage.{Damage}

-- no text puts nothing
pub put_nothing : (o : List ℕ) (at : ℕ) → Put o at [] o at
put_nothing o at = record { stored = rw (take-nil (length o - at)); next = omega arith }

module _ {o o' o'' : List ℕ} {at n r : ℕ} where
  pub put_number : (label : List ℕ) (k : ℕ) → Put o at (label ++ decimal k) o' n → Put o' n (10 ∷ []) o'' r → Put o at (label ++ (decimal k ++ (10 ∷ []))) o'' r
  put_number label k l p = rw append_assoc at (put_more _ _ _ _ _ _ _ _ l p)

  pub put_pair : (p k : ℕ) → Put o at (82 ∷ 32 ∷ decimal p) o' n → Put o' n (32 ∷ (decimal k ++ (10 ∷ []))) o'' r → Put o at (record_line p k) o'' r
  unfolding record_line
  put_pair p k l q = put_more _ _ _ _ _ _ _ _ l q

-- with so many turns to go, what they put makes the lines whole
abbrev pub Left : List ℕ → List ℕ → ℕ → List ℕ → ℕ → ℕ → ℕ → Type 0
Left o s e out at p turns = (o' : List ℕ) (r : ℕ) → Put out at (lines_from turns s p e) o' r → Put o 0 (lines_from e s 0 e) o' r

pub left_all : (o s : List ℕ) (e : ℕ) → Left o s e o 0 0 (e - 0)
left_all o s e o' r put = rw (sub-zero e) at put

module _ (o s : List ℕ) (e : ℕ) (out : List ℕ) (at p turns : ℕ) (left : Left o s e out at p turns) where
  pub left_more : (m : Result Met Damage) (out' : List ℕ) (at' q more : ℕ) → turns ≡ suc more → m ≡ passed s false p e → Put out at (met_line p m) out' at' → q ≡ met_next e m → Left o s e out' at' q more
  unfolding lines_from
  left_more m out' at' q more t y put z o' r rest =
      left o' r (rw (t, ← y, ← z) (put_more _ _ _ _ _ _ _ _ put rest))

  pub left_none : turns ≡ 0 → Put o 0 (lines_from e s 0 e) out at
  unfolding lines_from
  left_none t = left out at (rw t (put_nothing out at))

-- the listing goes by what the image was examined to be
pub put_listed : (s : List ℕ) {o o' : List ℕ} {r : ℕ} {x i : Result ℕ ImageFault} → x ≡ examined s → x ≡ i → Put o 0 (listed_as s i) o' r → Put o 0 (listed s) o' r
unfolding listed
put_listed s e x p = rw (← e, x) p

-- in a buffer that holds the longest listing nothing is left out
module _ (s o o' : List ℕ) (r : ℕ) (whole : length o ≡ listing_limit) (put : Put o 0 (listed s) o' r) where
  pub lines_stored : o' ≡ sets o 0 (listed s)
  lines_stored = put.stored ∙ ap (sets o 0) (take_all (length o - 0) (listed s) (omega (arith, listed_short s)))

  pub lines_told : r ≡ length (listed s)
  lines_told = omega (arith, put.next, listed_short s)

-- as many bytes as that are in the buffer
pub lines_below : (s o o' : List ℕ) (r : ℕ) → listing_limit ≡ length o → o' ≡ sets o 0 (listed s) → r ≡ length (listed s) → r ≤ length o'
lines_below s o o' r whole stored told = omega (arith, ap length stored, length-sets o 0 (listed s), listed_short s)

-- and they are the listing
pub lines_written : (s o o' : List ℕ) (r : ℕ) → listing_limit ≡ length o → o' ≡ sets o 0 (listed s) → r ≡ length (listed s) → take r o' ≡ listed s
lines_written s o o' r whole stored told = rw (told, stored) (sets_part (listed s) o 0 (omega (arith, listed_short s)))
