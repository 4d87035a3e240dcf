-- An object's first block tells its kind and its length, also where it stands on a reel, and these tell how many blocks it has.
use mathlib.Core.Path.{◌≡◌, refl, sym, ap, ◌∙◌}
use mathlib.Core.List.{List, [], ◌∷◌, ◌++◌, append_assoc}
use Prim.Native.Nat.{ℕ, ◌+◌, ◌*◌, ◌<◌}
use native.Mathlib.Nat.{add-zero}
use native.Mathlib.Omega.{arith}
use lib.Dec.{eqb}
use lib.ListN.{length, take, drop}
use lib.Seq.{drop_at, get_or-drop, get_or-take, take_all, take-append-le}
use Rattle.lists.specs.Pick.{pick}
use Rattle.lists.specs.Words.{word_at}
use Rattle.tape.specs.Layout.{block_of, gap_kind, mark_kind, piece_kind}
use Rattle.tape.specs.Numbers.{block_bytes, data_bytes, pieces_of}
use Rattle.tape.specs.Objects.{Allowed, Holds, Object, blocks_in, blocks_of, gap, image_of, images_of, mark, piece_of, record_of}
use Rattle.tape.proofs.Blocks.{block_kind, block_length}
use Rattle.tape.proofs.Images.{length_image, length_images, one_or_more, piece_in_image}
use Rattle.tape.proofs.Standing.{holds_split}

abbrev pub kind_in : Object → ℕ
kind_in (record_of d) = piece_kind
kind_in mark = mark_kind
kind_in gap = gap_kind

abbrev pub length_in : Object → ℕ
length_in (record_of d) = length d
length_in mark = 0
length_in gap = 0

abbrev data_in : Object → List ℕ
data_in (record_of d) = take data_bytes (drop (data_bytes * 0) d)
data_in mark = []
data_in gap = []

image_first : (o : Object) → Allowed o → take block_bytes (image_of o) ≡ block_of (kind_in o) (length_in o) 0 (data_in o)
unfolding image_of piece_of blocks_in
image_first (record_of d) a = piece_in_image d 0 (one_or_more (record_of d) a)
image_first mark a = take_all block_bytes (image_of mark) (omega (arith, length_image mark))
image_first gap a = take_all block_bytes (image_of gap) (omega (arith, length_image gap))

-- also where anything follows the object
module _ (o : Object) (xs : List ℕ) (a : Allowed o) where
  first_block : take block_bytes (image_of o ++ xs) ≡ block_of (kind_in o) (length_in o) 0 (data_in o)
  first_block = take-append-le block_bytes (image_of o) xs (omega (arith, length_image o, one_or_more o a)) ∙ image_first o a

  pub image_kind : word_at (take block_bytes (image_of o ++ xs)) 0 ≡ kind_in o
  image_kind = rw first_block (block_kind (kind_in o) (length_in o) 0 (data_in o))

  pub image_length : word_at (take block_bytes (image_of o ++ xs)) 2 ≡ length_in o
  image_length = rw first_block (block_length (kind_in o) (length_in o) 0 (data_in o))

pub blocks_by_head : (o : Object) → blocks_in o ≡ pick (eqb (kind_in o) piece_kind) (pieces_of (length_in o)) 1
unfolding blocks_in
blocks_by_head (record_of d) = refl
blocks_by_head mark = refl
blocks_by_head gap = refl

-- a word of a part
word_in : (s : List ℕ) (n p i : ℕ) → i + 1 < n → word_at (take n (drop p s)) i ≡ word_at s (p + i)
word_in s n p i h =
    let e : p + (i + 1) ≡ p + i + 1 = omega arith in
    rw (get_or-take n (drop p s) i 0 (omega arith), get_or-take n (drop p s) (i + 1) 0 h, get_or-drop p s i 0, get_or-drop p s (i + 1) 0, e)

-- the words of an object of a well formed reel, at its first block
module _ {s : List ℕ} {e : ℕ} (before : List Object) (o : Object) (after : List Object) (h : Holds s e (before ++ o ∷ after)) (a : Allowed o) where
  abbrev behind : List ℕ
  behind = images_of after ++ drop (block_bytes * e) s

  head_in : take block_bytes (drop (block_bytes * blocks_of before) s) ≡ take block_bytes (image_of o ++ behind)
  unfolding images_of
  head_in =
      ap (λ (l : List ℕ). take block_bytes (drop (block_bytes * blocks_of before) l)) (holds_split before (o ∷ after) h)
      ∙ ap (take block_bytes) (drop_at (images_of before) (images_of (o ∷ after) ++ drop (block_bytes * e) s) (block_bytes * blocks_of before) (length_images before) ∙ append_assoc (image_of o) (images_of after) (drop (block_bytes * e) s))

  pub kind_stands : word_at s (block_bytes * blocks_of before) ≡ kind_in o
  kind_stands =
      ap (word_at s) (sym (add-zero (block_bytes * blocks_of before)))
      ∙ sym (word_in s block_bytes (block_bytes * blocks_of before) 0 (omega arith))
      ∙ ap (λ (b : List ℕ). word_at b 0) head_in
      ∙ image_kind o behind a

  pub length_stands : word_at s (block_bytes * blocks_of before + 2) ≡ length_in o
  length_stands = sym (word_in s block_bytes (block_bytes * blocks_of before) 2 (omega arith)) ∙ ap (λ (b : List ℕ). word_at b 2) head_in ∙ image_length o behind a
