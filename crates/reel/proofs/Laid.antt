-- Laws of laying a record: a piece is laid from the bytes gathered for it alone, and joins the pieces before it.
use mathlib.Core.Path.{◌≡◌, ap}
use mathlib.Core.Bool.{Bool}
use mathlib.Core.List.{List, ◌∷◌}
use Prim.Native.Nat.{ℕ, zero, suc, ◌+◌, ◌-◌, ◌*◌, ◌≤◌, min}
use native.Mathlib.Nat.{add-sub_cancel_left, min-zero, zero-min, suc-min-suc}
use native.Mathlib.Numerals.{add-one}
use native.Mathlib.Omega.{arith}
use borrow.Rule.Slice.PartMut.{put_mid}
use lib.ListN.{length, take, get_or}
use lib.Seq.{sets}
use Rattle.lists.specs.Places.{gathered, place}
use Rattle.lists.proofs.Placed.{gathered_drop, length_gathered}
use Rattle.lists.proofs.Stores.{put_sets, sets_at}
use Rattle.tape.specs.Layout.{block_of, piece_kind}
use Rattle.tape.specs.Numbers.{block_bytes, data_bytes, pieces_of}
use Rattle.tape.specs.Objects.{image_of, piece_of, pieces_to, record_of}
use Rattle.tape.proofs.PieceRun.{length_pieces}

-- the block t that was lent at `at` comes back as b
pub part_laid : (l t b : List ℕ) (at : ℕ) → length b ≡ block_bytes → at + block_bytes ≤ length l → t ≡ b → put_mid at (at + block_bytes - at) l t ≡ sets l at b
part_laid l t b at e h q = rw (add-sub_cancel_left at block_bytes, q) (put_sets at block_bytes l b e h)

-- the first bytes, however many there are
gathered_front : (w : Bool) (m : List ℕ) (a c n : ℕ) → take c (gathered w m a n) ≡ gathered w m a (min n c)
unfolding gathered
gathered_front w m a zero n = rw min-zero
gathered_front w m a (suc c) zero = rw zero-min
gathered_front w m a (suc c) (suc n) = rw suc-min-suc (ap (λ (l : List ℕ). get_or m (place w a) 0 ∷ l) (gathered_front w m (suc a) c n))

-- a block b with the bytes gathered for piece i is piece i
pub piece_laid : (w : Bool) (m b : List ℕ) (a n i used : ℕ) → data_bytes * i ≤ n → used ≡ min (n - data_bytes * i) data_bytes → b ≡ block_of piece_kind n i (gathered w m (a + data_bytes * i) used) → b ≡ piece_of (gathered w m a n) i
unfolding piece_of
piece_laid w m b a n i used h e q = rw (q, e, length_gathered w m a n, gathered_drop w m a (data_bytes * i) n h, gathered_front w m (a + data_bytes * i) data_bytes (n - data_bytes * i))

-- one turn of the loop of `lay_record`
pub pieces_more : (l d : List ℕ) (p i : ℕ) → sets (sets l (block_bytes * p) (pieces_to d i)) (block_bytes * (p + i)) (piece_of d i) ≡ sets l (block_bytes * p) (pieces_to d (i + 1))
unfolding pieces_to
pieces_more l d p i = rw (add-one i) (sets_at (pieces_to d i) (piece_of d i) l (block_bytes * p) (block_bytes * (p + i)) (omega (arith, length_pieces d i)))

-- all pieces are the record
pub pieces_whole : (w : Bool) (m : List ℕ) (a n : ℕ) → pieces_to (gathered w m a n) (pieces_of n) ≡ image_of (record_of (gathered w m a n))
unfolding image_of
pieces_whole w m a n = rw (length_gathered w m a n)
