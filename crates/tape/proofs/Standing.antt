-- What a reel that holds a list of objects says of one of them: where it stands, that it ends below the end, and which blocks it has.
use mathlib.Core.Path.{◌≡◌, ap, ◌∙◌}
use mathlib.Core.List.{List, ◌∷◌, ◌++◌, append_assoc}
use Prim.Native.Nat.{ℕ, ◌+◌, ◌*◌, ◌≤◌, ◌<◌}
use native.Mathlib.Nat.{add-zero}
use native.Mathlib.Omega.{arith}
use lib.ListN.{length, drop, length-take, take-append-drop}
use lib.Seq.{take_at, drop_at}
use Rattle.tape.specs.Numbers.{block_bytes, pieces_of}
use Rattle.tape.specs.Objects.{Holds, Object, StandsAt, blocks_in, blocks_of, gap, image_of, images_of, mark, piece_of, record_of}
use Rattle.tape.specs.Reading.{block_at}
use Rattle.tape.proofs.Images.{blocks_append, images_append, length_image, length_images, piece_whole}
use Rattle.tape.proofs.PieceRun.{part_stands}

-- the reel as the images of its objects and a rest
pub holds_split : {s : List ℕ} {e : ℕ} (before after : List Object) → Holds s e (before ++ after) → s ≡ images_of before ++ (images_of after ++ drop (block_bytes * e) s)
holds_split {s} {e} before after h =
    let r = drop (block_bytes * e) s in
    cc (take-append-drop (block_bytes * e) s, h.image, images_append before after, append_assoc (images_of before) (images_of after) r)

pub holds_room : {s : List ℕ} {e : ℕ} {os : List Object} → Holds s e os → block_bytes * e ≤ length s
holds_room {s} {e} {os} h = omega (arith, rw length-take at (ap length h.image), length_images os, h.ends)

-- an object with anything before and after it
stands_within : (xs : List ℕ) (o : Object) (ys : List ℕ) (p : ℕ) → length xs ≡ block_bytes * p → StandsAt (xs ++ (image_of o ++ ys)) p o
stands_within xs o ys p e = rw (drop_at xs (image_of o ++ ys) (block_bytes * p) e) (take_at (image_of o) ys (block_bytes * blocks_in o) (length_image o))

module _ {s : List ℕ} {e : ℕ} (before : List Object) (o : Object) (after : List Object) (h : Holds s e (before ++ o ∷ after)) where
  pub stands_in : StandsAt s (blocks_of before) o
  unfolding images_of
  stands_in =
      rw (holds_split before (o ∷ after) h, append_assoc (image_of o))
      (stands_within (images_of before) o (images_of after ++ drop (block_bytes * e) s) (blocks_of before) (length_images before))

  pub stands_below : blocks_of before + blocks_in o ≤ e
  unfolding blocks_of
  stands_below = omega (arith, blocks_append before (o ∷ after), h.ends)

-- piece j of a record is block j from where the record stands
pub stands_piece : (s : List ℕ) (p : ℕ) (d : List ℕ) (j : ℕ) → StandsAt s p (record_of d) → j < pieces_of (length d) → block_at s (p + j) ≡ piece_of d j
stands_piece s p d j h l = rw add-zero at (part_stands d s p j 0 block_bytes h l (omega arith)) ∙ piece_whole d j

pub stands_mark : (s : List ℕ) (p : ℕ) → StandsAt s p mark → block_at s p ≡ image_of mark
unfolding blocks_in
stands_mark s p h = h

pub stands_gap : (s : List ℕ) (p : ℕ) → StandsAt s p gap → block_at s p ≡ image_of gap
unfolding blocks_in
stands_gap s p h = h
