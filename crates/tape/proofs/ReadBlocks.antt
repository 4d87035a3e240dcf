-- The reader accepts exactly the paper's blocks.
use mathlib.Core.Path.{◌≡◌, refl}
use mathlib.Core.Bool.{Bool, true, false, and-eq-true_iff}
use mathlib.Core.List.{List, []}
use Prim.Native.Nat.{ℕ, ◌-◌, ◌*◌, ◌/◌, ◌≤◌, ◌<◌, min}
use native.Mathlib.Omega.{arith}
use borrow.Author.Tests.{le-leb, leb-true, lt-ltb, ltb-true}
use lib.Dec.{eqb, leb, ltb}
use lib.ListN.{length, take, drop}
use Rattle.lists.specs.Pick.{pick}
use Rattle.lists.specs.Words.{Bytes}
use Rattle.tape.proofs.Accepted.{Accepted, accepted_gap, accepted_mark, accepted_piece, clash, pick_first}
use Rattle.tape.proofs.Blocks.{block_index, block_kind, block_length}
use Rattle.tape.proofs.Checked.{block_check, block_padding}
use Rattle.tape.proofs.Rebuilt.{rebuilt}
use Rattle.tape.specs.Layout.{block_of, gap_kind, mark_kind, piece_kind}
use Rattle.tape.specs.Numbers.{block_bytes, data_bytes, head_bytes, pieces_of, record_limit}
use Rattle.tape.specs.Objects.{gap, image_of, mark}
use Rattle.tape.specs.Reading.{block_at, class_at, class_at_under, class_by_under, class_of, class_of_under, index_right, kind_of, kind_right, length_right, used_of}
use Rattle.tape.specs.declared.Block.TheVariants as block
use Rattle.std.specs.Prelude.{Ok}

-- a laid block with a right head is read as what its kind says
read_laid : (k n i : ℕ) (d : List ℕ) → kind_right k ≡ true → length_right k n ≡ true → index_right k n i ≡ true → length d ≡ used_of k n i → length d ≤ data_bytes → class_of (block_of k n i d) ≡ Ok (kind_of k n i)
unfolding class_of_under class_by_under
read_laid k n i d p q r u h = rw (block_kind k n i d, block_length k n i d, block_index k n i d, p, q, r, ← u, block_padding k n i d h, block_check k n i d h)

pub read_piece : (n i : ℕ) (d : List ℕ) → 1 ≤ n → n ≤ record_limit → i < pieces_of n → length d ≡ min data_bytes (n - data_bytes * i) → class_of (block_of piece_kind n i d) ≡ Ok (block.Piece n i)
read_piece n i d h k l u = read_laid piece_kind n i d refl (simp (le-leb 1 n h, le-leb n record_limit k)) (lt-ltb i (pieces_of n) l) u (omega arith)

pub read_mark : class_of (image_of mark) ≡ Ok block.Mark
unfolding image_of
read_mark = read_laid mark_kind 0 0 [] refl refl refl refl (omega arith)

pub read_gap : class_of (image_of gap) ≡ Ok block.Gap
unfolding image_of
read_gap = read_laid gap_kind 0 0 [] refl refl refl refl (omega arith)

pub piece_ranged : (b : List ℕ) (n i : ℕ) → class_of b ≡ Ok (block.Piece n i) → (1 ≤ n) × (n ≤ record_limit) × (i < pieces_of n)
piece_ranged b n i e =
    let a = accepted_piece record_limit b n i e in
    let q = (and-eq-true_iff (leb 1 n) (leb n record_limit)).0 a.sized in
    (leb-true 1 n q.0, leb-true n record_limit q.1, ltb-true i (pieces_of n) a.indexed)

-- a block that the slice does not hold is damaged, and so no piece
pub piece_read : (s : List ℕ) (k n i : ℕ) → class_at s k ≡ Ok (block.Piece n i) → (1 ≤ n) × (n ≤ record_limit) × (i < pieces_of n)
unfolding class_at_under
piece_read s k n i e =
    piece_ranged (block_at s k) n i (pick_first (ltb k (length s / block_bytes)) (class_of (block_at s k)) _ (Ok (block.Piece n i)) e (λ h. clash cc)).1

used_fits : (t : Bool) (m : ℕ) → pick t (min data_bytes m) 0 ≤ data_bytes
used_fits true m = omega arith
used_fits false m = omega arith

module _ (b : List ℕ) (bytes : Bytes b) (whole : length b ≡ block_bytes) where
  -- an accepted block is laid from what it says
  whole_accepted : (k n i : ℕ) → Accepted record_limit b k n i → b ≡ block_of k n i (take (used_of k n i) (drop head_bytes b))
  whole_accepted k n i a =
      let e = rebuilt b bytes whole (used_of k n i) (used_fits (eqb k piece_kind) (n - data_bytes * i)) a.padding a.check in
      rw (a.kind, a.size, a.index) at e

  pub whole_piece : (n i : ℕ) → class_of b ≡ Ok (block.Piece n i) → b ≡ block_of piece_kind n i (take (min data_bytes (n - data_bytes * i)) (drop head_bytes b))
  whole_piece n i e = whole_accepted piece_kind n i (accepted_piece record_limit b n i e)

  pub whole_mark : class_of b ≡ Ok block.Mark → b ≡ image_of mark
  unfolding image_of
  whole_mark e = whole_accepted mark_kind 0 0 (accepted_mark record_limit b e)

  pub whole_gap : class_of b ≡ Ok block.Gap → b ≡ image_of gap
  unfolding image_of
  whole_gap e = whole_accepted gap_kind 0 0 (accepted_gap record_limit b e)
