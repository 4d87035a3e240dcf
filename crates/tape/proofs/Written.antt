-- A write at a bound between two objects: what stands below stays, the new object stands behind it, and all beyond is forgotten.
use mathlib.Core.Path.{◌≡◌, refl, sym, ◌∙◌}
use mathlib.Core.List.{List, [], ◌∷◌, ◌++◌, append-nil}
use Prim.Native.Nat.{ℕ, ◌+◌, ◌*◌, ◌≤◌}
use native.Mathlib.Omega.{arith}
use lib.ListN.{length, take}
use lib.Seq.{sets, take-add, take_at}
use Rattle.lists.proofs.Stores.{sets_part, take_sets}
use Rattle.tape.specs.Numbers.{block_bytes}
use Rattle.tape.specs.Objects.{Allowed, Holds, Object, StandsAt, also, blocks_in, blocks_of, image_of, images_of, none}
use Rattle.tape.proofs.Images.{allowed_both, allowed_front, blocks_append, images_append, length_image, length_images}
use Rattle.tape.proofs.Standing.{holds_split}

pub laid_stands : (s : List ℕ) (p : ℕ) (o : Object) → block_bytes * (p + blocks_in o) ≤ length s → StandsAt (sets s (block_bytes * p) (image_of o)) p o
laid_stands s p o h = rw (length_image o) at (sets_part (image_of o) s (block_bytes * p) (rw (length_image o) (omega arith)))

-- what lies at or above the end says nothing
pub below_only : {s s' : List ℕ} {e : ℕ} {os : List Object} → take (block_bytes * e) s ≡ take (block_bytes * e) s' → Holds s e os → Holds s' e os
below_only k h = record { allowed = h.allowed; ends = h.ends; image = sym k ∙ h.image }

-- the end may come down to any bound
pub holds_front : {s : List ℕ} {e : ℕ} (before after : List Object) → Holds s e (before ++ after) → Holds s (blocks_of before) before
holds_front before after h =
    record {
      allowed = allowed_front before after h.allowed;
      ends = refl;
      image = rw (holds_split before after h) (take_at (images_of before) _ _ (length_images before));
    }

-- and up over an object that stands there
pub holds_more : {s : List ℕ} {e : ℕ} {os : List Object} (o : Object) → Holds s e os → Allowed o → StandsAt s e o → Holds s (e + blocks_in o) (os ++ o ∷ [])
unfolding blocks_of images_of
holds_more {s} {e} {os} o h a t =
    let at : block_bytes * (e + blocks_in o) ≡ block_bytes * e + block_bytes * blocks_in o = omega arith in
    record {
      allowed = allowed_both h.allowed (also a none);
      ends = omega (arith, blocks_append os (o ∷ []), h.ends);
      image = rw (at, take-add, h.image, t, images_append os (o ∷ []), append-nil);
    }

pub laid_holds : {s : List ℕ} {e : ℕ} (before after : List Object) (o : Object) → Holds s e (before ++ after) → Allowed o → block_bytes * (blocks_of before + blocks_in o) ≤ length s
    → Holds (sets s (block_bytes * blocks_of before) (image_of o)) (blocks_of before + blocks_in o) (before ++ o ∷ [])
laid_holds {s} before after o h a room =
    let p = blocks_of before in
    let under = sym (take_sets (image_of o) s (block_bytes * p) (block_bytes * p) (omega arith)) in
    holds_more o (below_only under (holds_front before after h)) a (laid_stands s p o room)
