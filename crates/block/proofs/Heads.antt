-- What a right head says of a piece: the pieces before it lie within the record, so that `n - 504 * i` is what is left.
use mathlib.Core.Bool.{Bool, true, false, ◌&&◌, false≢true}
use mathlib.Core.Path.{◌≡◌}
use Prim.Native.Nat.{ℕ, ◌*◌, ◌<◌}
use native.Mathlib.Omega.{arith}
use borrow.Author.Tests.{ltb-true}
use lib.Dec.{leb, ltb}
use Rattle.tape.specs.Numbers.{data_bytes, pieces_of, record_limit}
use Rattle.tape.specs.Layout.{piece_kind}
use Rattle.tape.specs.Reading.{index_right, kind_right, length_right}
use Rattle.block.specs.Halves.{head_right}

right_of : (a b : Bool) → (a && b) ≡ true → b ≡ true
right_of true b h = h
right_of false b h = absurd (false≢true h)

-- a head whose three words are right
pub head_whole : (k n i : ℕ) → kind_right k ≡ true → length_right k n ≡ true → index_right k n i ≡ true → head_right k n i ≡ true
unfolding head_right
head_whole k n i a b c = rw (a, b, c)

pub head_piece : (k n i : ℕ) → k ≡ piece_kind → head_right k n i ≡ true → data_bytes * i < n
unfolding head_right
head_piece k n i e h =
    let p : i < pieces_of n = ltb-true i (pieces_of n) (right_of (leb 1 n && leb n record_limit) (ltb i (pieces_of n)) (rw e at h)) in
    omega arith
