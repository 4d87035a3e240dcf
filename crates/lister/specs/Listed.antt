-- "Instead: `L` too long, `S` not whole blocks, `X k` bad block k, in that order." (01, The listing) "The listing's X line gets a second field: K, N,
-- I, P or C." (02, [4])
use Rattle.std.specs.Prelude.{false, ◌≡◌, List, [], ◌∷◌, ◌++◌, ℕ, suc, ◌*◌, ◌<◌, ◌≤◌, ◌%◌, length, Result, Ok, Err}
use Rattle.tape.specs.Listing.{examined, image_limit}
use Rattle.tape.specs.Numbers.{block_bytes}
use Rattle.tape.specs.Objects.{Holds, Object}
use Rattle.tape.specs.Pass.{passed}
use Rattle.tape.specs.Wrong.{WrongAt}
use Rattle.tape.specs.declared.BlockFault.{BlockFault}
use Rattle.tape.specs.declared.ImageFault.{ImageFault}
use Rattle.tape.specs.declared.ImageFault.TheVariants as image
use Rattle.tape.specs.declared.Met.{Met}
use Rattle.tape.specs.declared.Met.TheVariants as met
use Rattle.lister.specs.Lines.{bad_line, letter_e, letter_g, letter_m, lines_of, number_line, record_line}
use Rattle.tape.specs.declared.Damage.{Damage}
use Rattle.tape.specs.Damage.{damage}

-- what the listing of an image is, by the objects that it holds
pub data Listing (s : List ℕ) : List ℕ → Type 0 where
  -- a line for each object; "E gives the recorded end (the image's block count, 0 if empty)"
  objects : (os : List Object) (e : ℕ) → length s ≤ image_limit → block_bytes * e ≡ length s → Holds s e os → Listing s (lines_of 0 os ++ number_line letter_e e)
  too_long : image_limit < length s → Listing s (76 ∷ 10 ∷ [])
  not_whole : length s ≤ image_limit → (length s % block_bytes ≡ 0 → ⊥) → Listing s (83 ∷ 10 ∷ [])
  -- the first block at fault, which a mount would name, and what is wrong with it
  bad : (why : BlockFault) (k : ℕ) → WrongAt s k why → examined s ≡ Err (image.Bad (damage why k)) → Listing s (bad_line why k)

-- the line of what is met at block p
unfoldable pub met_line : ℕ → Result Met Damage → List ℕ
met_line p (Ok (met.Record n q)) = record_line p n
met_line p (Ok (met.Mark q)) = number_line letter_m p
met_line p (Ok (met.Gap q)) = number_line letter_g p
met_line p (Ok met.Nothing) = []
met_line p (Err d) = []

-- where the next object is met; the end e where there is none
unfoldable pub met_next : ℕ → Result Met Damage → ℕ
met_next e (Ok (met.Record n q)) = q
met_next e (Ok (met.Mark q)) = q
met_next e (Ok (met.Gap q)) = q
met_next e (Ok met.Nothing) = e
met_next e (Err d) = e

-- the lines of at most `turns` objects, met from block p on
unfoldable pub lines_from : ℕ → List ℕ → ℕ → ℕ → List ℕ
lines_from ℕ.zero s p e = []
lines_from (suc turns) s p e = met_line p (passed s false p e) ++ lines_from turns s (met_next e (passed s false p e)) e

-- each object takes a block or more, so e objects are all (law `listed_is`)
unfoldable pub listed_as : List ℕ → Result ℕ ImageFault → List ℕ
listed_as s (Ok e) = lines_from e s 0 e ++ number_line letter_e e
listed_as s (Err (image.Bad d)) = bad_line d.fault d.block
listed_as s (Err image.TooLong) = 76 ∷ 10 ∷ []
listed_as s (Err image.NotWhole) = 83 ∷ 10 ∷ []

-- every byte that the program prints for an image
unfoldable pub listed : List ℕ → List ℕ
listed s = listed_as s (examined s)

-- more than the longest listing: 129 lines, and no number takes more than 65 digits (law `listed_short`)
abbrev pub listing_limit : ℕ
listing_limit = 18000
