-- A well formed reel has exactly one list of objects: an image tells its object and where it ends.
use mathlib.Core.Path.{◌≡◌, refl, sym, ap, ◌∙◌}
use mathlib.Core.List.{List, [], ◌++◌, append_assoc, append-nil}
use Prim.Native.Nat.{ℕ, ◌+◌, ◌-◌, ◌*◌, ◌≤◌}
use native.Mathlib.Omega.{arith}
use lib.Dec.{eqb}
use lib.ListN.{length, take, drop, length-append}
use lib.Seq.{take-add, take_all, take_at, drop_at}
use Rattle.lists.specs.Pick.{pick}
use Rattle.tape.specs.Bytes.{record_bytes}
use Rattle.tape.specs.Layout.{mark_kind, piece_kind}
use Rattle.tape.specs.Numbers.{block_bytes}
use Rattle.tape.specs.Objects.{AllAllowed, Allowed, Holds, Object, StandsAt, also, blocks_in, blocks_of, gap, image_of, images_of, mark, none, record_of}
use Rattle.tape.proofs.Heads.{blocks_by_head, image_kind, image_length, kind_in, length_in}
use Rattle.tape.proofs.Images.{allowed_rest, blocks_append, length_image, one_or_more}
use Rattle.tape.proofs.Recorded.{record_stands}

image_stands : (o : Object) → StandsAt (image_of o) 0 o
image_stands o = take_all (block_bytes * blocks_in o) (image_of o) (rw (length_image o) (omega arith))

-- the object with this kind, length and image
abbrev object_by : ℕ → ℕ → List ℕ → Object
object_by k n s = pick (eqb k piece_kind) (record_of (record_bytes s 0 n)) (pick (eqb k mark_kind) mark gap)

object_back : (o : Object) → Allowed o → object_by (kind_in o) (length_in o) (image_of o) ≡ o
object_back (record_of d) a = ap record_of (record_stands (image_of (record_of d)) 0 d (image_stands (record_of d)) a.0 a.1)
object_back mark a = refl
object_back gap a = refl

cancel : (us vs xs ys : List ℕ) → length us ≡ length vs → us ++ xs ≡ vs ++ ys → (us ≡ vs) × (xs ≡ ys)
cancel us vs xs ys l e =
    let n = length vs in
    (sym (take_at us xs n l) ∙ ap (take n) e ∙ take_at vs ys n refl, sym (drop_at us xs n l) ∙ ap (drop n) e ∙ drop_at vs ys n refl)

pub image_front : (o o' : Object) (xs ys : List ℕ) → Allowed o → Allowed o' → image_of o ++ xs ≡ image_of o' ++ ys → (o ≡ o') × (xs ≡ ys)
image_front o o' xs ys a b e =
    let kinds : kind_in o ≡ kind_in o' = cc (image_kind o xs a, image_kind o' ys b) in
    let lengths : length_in o ≡ length_in o' = cc (image_length o xs a, image_length o' ys b) in
    let blocks : blocks_in o ≡ blocks_in o' = cc (blocks_by_head o, blocks_by_head o') in
    let apart = cancel (image_of o) (image_of o') xs ys (cc (length_image o, length_image o')) e in
    (cc (object_back o a, object_back o' b, apart.0), apart.1)

not_nothing : (o : Object) (xs : List ℕ) → Allowed o → image_of o ++ xs ≡ [] → ⊥
not_nothing o xs a e = omega (arith, rw length-append at (ap length e), length_image o, one_or_more o a)

-- of two lists of objects one of which begins with the other's blocks, it begins with the other's objects
images_front : {os os' : List Object} (xs : List ℕ) → AllAllowed os → AllAllowed os' → images_of os ++ xs ≡ images_of os' → (rest : List Object) × (os' ≡ os ++ rest)
unfolding images_of
images_front {os' = os'} xs none k e = (os', refl)
images_front xs (also {o = o} {os = os} a h) none e = absurd (not_nothing o (images_of os ++ xs) a (rw append_assoc at e))
images_front xs (also {o = o} {os = os} a h) (also {o = o'} {os = os'} b k) e =
    let apart = image_front o o' (images_of os ++ xs) (images_of os') a b (rw append_assoc at e) in
    let more = images_front xs h k apart.1 in
    (more.0, cc (apart.0, more.1))

-- the list up to a lower bound is a front of the list up to a higher one
pub holds_longer : {s : List ℕ} {e e' : ℕ} {os os' : List Object} → e ≤ e' → Holds s e os → Holds s e' os' → (rest : List Object) × (os' ≡ os ++ rest)
holds_longer {s} {e} {e'} l h k =
    let at : block_bytes * e' ≡ block_bytes * e + block_bytes * (e' - e) = omega arith in
    images_front (take (block_bytes * (e' - e)) (drop (block_bytes * e) s)) h.allowed k.allowed
    (cc (at, take-add (block_bytes * e) (block_bytes * (e' - e)) s, h.image, k.image))

no_blocks : {os : List Object} → AllAllowed os → blocks_of os ≡ 0 → os ≡ []
unfolding blocks_of
no_blocks none e = refl
no_blocks (also {o = o} a h) e = absurd (omega (arith, one_or_more o a))

pub one_list : {s : List ℕ} {e : ℕ} {os os' : List Object} → Holds s e os → Holds s e os' → os ≡ os'
one_list {os = os} h k =
    let more = holds_longer (omega arith) h k in
    let rest = more.0 in
    let left : blocks_of rest ≡ 0 = omega (arith, h.ends, k.ends, ap blocks_of more.1, blocks_append os rest) in
    cc (more.1, no_blocks (allowed_rest os rest (rw more.1 at k.allowed)) left, append-nil os)
