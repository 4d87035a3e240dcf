-- Objects laid at a bound: what stands below stays, the new ones stand behind it, and all beyond is forgotten.
use mathlib.Core.List.{List, [], ◌++◌, append-nil}
use mathlib.Core.Path.{◌≡◌, sym}
use Prim.Native.Nat.{ℕ, ◌+◌, ◌*◌, ◌≤◌}
use native.Mathlib.Omega.{arith}
use lib.ListN.{length, take, drop}
use lib.Seq.{sets, take-add}
use Rattle.lists.proofs.Stores.{sets_part, take_sets}
use Rattle.tape.specs.Numbers.{block_bytes}
use Rattle.tape.specs.Objects.{AllAllowed, Holds, Object, blocks_of, images_of}
use Rattle.tape.proofs.Images.{allowed_both, blocks_append, images_append, length_images}
use Rattle.tape.proofs.Written.{holds_front}
use Rattle.moves.specs.Between.{Bound}

module _ {s : List ℕ} {e : ℕ} {os : List Object} (h : Holds s e os) {p : ℕ} (b : Bound os p) where
  -- the end may come down to any bound
  up_to : Holds s p b.before
  up_to = rw b.place at (holds_front b.before b.after (rw b.whole at h))

  module _ (new : List Object) (n : ℕ) (l : blocks_of new ≡ n) where
    -- the new blocks are where they were stored
    new_part : block_bytes * (p + n) ≤ length s → take (block_bytes * n) (drop (block_bytes * p) (sets s (block_bytes * p) (images_of new))) ≡ images_of new
    new_part room = rw (length_images new, l) at (sets_part (images_of new) s (block_bytes * p) (rw (length_images new, l) (omega arith)))

    pub overlaid : AllAllowed new → block_bytes * (p + n) ≤ length s → Holds (sets s (block_bytes * p) (images_of new)) (p + n) (b.before ++ new)
    overlaid a room =
        let at : block_bytes * (p + n) ≡ block_bytes * p + block_bytes * n = omega arith in
        let under = take_sets (images_of new) s (block_bytes * p) (block_bytes * p) (omega arith) in
        record {
          allowed = allowed_both up_to.allowed a;
          ends = rw (blocks_append b.before new, b.place, l);
          image = rw (at, take-add, under, up_to.image, new_part room, images_append b.before new);
        }

    -- and the end is a bound
    pub overlaid_end : Bound (b.before ++ new) (p + n)
    overlaid_end =
        record { before = b.before ++ new; after = []; whole = sym (append-nil (b.before ++ new)); place = rw (blocks_append b.before new, b.place, l) }
