-- How long the images of objects are, how they join, and where a record's pieces lie in its image.
use mathlib.Core.Path.{◌≡◌, refl, ◌∙◌}
use mathlib.Core.List.{List, [], ◌∷◌, ◌++◌, append_assoc}
use Prim.Native.Nat.{ℕ, ◌+◌, ◌*◌, ◌≤◌, ◌<◌}
use native.Mathlib.Nat.{add-zero, zero-add}
use native.Mathlib.Omega.{arith}
use lib.ListN.{length, take, drop, length-append}
use lib.Seq.{take_all}
use Rattle.tape.specs.Numbers.{block_bytes, pieces_of}
use Rattle.tape.specs.Layout.{gap_kind, mark_kind}
use Rattle.tape.specs.Objects.{AllAllowedUnder, Allowed, Object, also, blocks_in, blocks_of, gap, image_of, images_of, mark, none, piece_of, record_of}
use Rattle.tape.proofs.Blocks.{length_block}
use Rattle.tape.proofs.PieceRun.{length_piece, length_pieces, part_of_pieces}

pub length_image : (o : Object) → length (image_of o) ≡ block_bytes * blocks_in o
unfolding image_of blocks_in
length_image (record_of d) = length_pieces d (pieces_of (length d))
length_image mark = length_block mark_kind 0 0 [] (omega arith)
length_image gap = length_block gap_kind 0 0 [] (omega arith)

-- lists of objects join as their images do
pub blocks_append : (xs ys : List Object) → blocks_of (xs ++ ys) ≡ blocks_of xs + blocks_of ys
unfolding blocks_of
blocks_append [] ys = rw zero-add
blocks_append (o ∷ xs) ys = omega (arith, blocks_append xs ys)

pub images_append : (xs ys : List Object) → images_of (xs ++ ys) ≡ images_of xs ++ images_of ys
unfolding images_of
images_append [] ys = refl
images_append (o ∷ xs) ys = rw (append_assoc, images_append xs ys)

pub length_images : (os : List Object) → length (images_of os) ≡ block_bytes * blocks_of os
unfolding images_of blocks_of
length_images [] = refl
length_images (o ∷ os) = rw length-append (omega (arith, length_image o, length_images os))

-- so that e blocks hold at most e objects
pub one_or_more : (o : Object) → Allowed o → 1 ≤ blocks_in o
unfolding blocks_in
one_or_more (record_of d) h = omega arith
one_or_more mark h = omega arith
one_or_more gap h = omega arith

pub allowed_front : {limit : ℕ} (xs ys : List Object) → AllAllowedUnder limit (xs ++ ys) → AllAllowedUnder limit xs
allowed_front [] ys h = none
allowed_front (o ∷ xs) ys (also a h) = also a (allowed_front xs ys h)

pub allowed_rest : {limit : ℕ} (xs ys : List Object) → AllAllowedUnder limit (xs ++ ys) → AllAllowedUnder limit ys
allowed_rest [] ys h = h
allowed_rest (o ∷ xs) ys (also a h) = allowed_rest xs ys h

pub allowed_both : {limit : ℕ} {xs ys : List Object} → AllAllowedUnder limit xs → AllAllowedUnder limit ys → AllAllowedUnder limit (xs ++ ys)
allowed_both none k = k
allowed_both (also a h) k = also a (allowed_both h k)

-- a piece is one block, and so block j of its record
pub piece_whole : (d : List ℕ) (j : ℕ) → take block_bytes (piece_of d j) ≡ piece_of d j
piece_whole d j = take_all block_bytes (piece_of d j) (omega (arith, length_piece d j))

pub piece_in_image : (d : List ℕ) (j : ℕ) → j < pieces_of (length d) → take block_bytes (drop (block_bytes * j) (image_of (record_of d))) ≡ piece_of d j
unfolding image_of
piece_in_image d j h = rw add-zero at (part_of_pieces d (pieces_of (length d)) j 0 block_bytes h (omega arith)) ∙ piece_whole d j
