-- Blocks that the reader accepts stand there: a mark, a gap, and the pieces of a record as the record of their data bytes.
use mathlib.Core.Path.{◌≡◌, refl, sym, ap}
use mathlib.Core.List.{List, ◌++◌}
use Prim.Native.Nat.{ℕ, zero, suc, ◌+◌, ◌-◌, ◌*◌, ◌/◌, ◌%◌, ◌≤◌, ◌<◌, min}
use native.Mathlib.Omega.{arith}
use borrow.Author.Tests.{ltb-true}
use lib.Dec.{ltb}
use lib.ListN.{length, take, drop, length-drop, length-take}
use lib.Seq.{drop-drop, take-add}
use Rattle.lists.specs.Words.{Bytes}
use Rattle.tape.specs.Bytes.{record_bytes}
use Rattle.tape.specs.Numbers.{block_bytes, data_bytes, head_bytes, pieces_of}
use Rattle.tape.specs.Objects.{Allowed, StandsAt, blocks_in, gap, image_of, mark, piece_of, pieces_to, record_of}
use Rattle.tape.specs.Reading.{block_at, class_at, class_at_under, class_of}
use Rattle.tape.specs.declared.BlockFault.{BlockFault}
use Rattle.tape.specs.declared.BlockFault.TheVariants as fault
use Rattle.tape.specs.declared.Block.{Block}
use Rattle.tape.specs.declared.Block.TheVariants as block
use Rattle.tape.proofs.Accepted.{clash, pick_first}
use Rattle.tape.proofs.Parts.{bytes_part, take_there}
use Rattle.tape.proofs.Passes.{PiecesAt}
use Rattle.tape.proofs.ReadBlocks.{piece_read, whole_gap, whole_mark, whole_piece}
use Rattle.tape.proofs.Recorded.{record_length, record_part}
use Rattle.tape.proofs.Runs.{part_of_front}
use Rattle.std.specs.Prelude.{Result, Ok, Err}

-- what a block that is not damaged says: the slice holds it
record ReadAt (s : List ℕ) (k : ℕ) (b : Result Block BlockFault) : Type 0 where
  room : block_bytes * (k + 1) ≤ length s
  bytes : Bytes (block_at s k)
  size : length (block_at s k) ≡ block_bytes
  class : class_of (block_at s k) ≡ b

module _ (s : List ℕ) (k : ℕ) (all : Bytes s) where
  read_at : (b : Result Block BlockFault) → ((f : BlockFault) → Err f ≡ b → ⊥) → class_at s k ≡ b → ReadAt s k b
  unfolding class_at_under
  read_at b sound e =
      let p = pick_first (ltb k (length s / block_bytes)) (class_of (block_at s k)) _ b e (sound fault.Index) in
      let fits : block_bytes * (k + 1) ≤ length s = omega (arith, ltb-true k (length s / block_bytes) p.0) in
      record { room = fits; bytes = bytes_part block_bytes (block_bytes * k) s all; size = simp (length-take, length-drop) (omega arith); class = p.1 }

  pub mark_stands : class_at s k ≡ Ok block.Mark → StandsAt s k mark
  unfolding blocks_in
  mark_stands e = let r = read_at (Ok block.Mark) (λ f h. clash cc) e in whole_mark (block_at s k) r.bytes r.size r.class

  pub gap_stands : class_at s k ≡ Ok block.Gap → StandsAt s k gap
  unfolding blocks_in
  gap_stands e = let r = read_at (Ok block.Gap) (λ f h. clash cc) e in whole_gap (block_at s k) r.bytes r.size r.class

  piece_at : (n i : ℕ) → class_at s k ≡ Ok (block.Piece n i) → ReadAt s k (Ok (block.Piece n i))
  piece_at n i e = read_at (Ok (block.Piece n i)) (λ f h. clash cc) e

-- the converse of `stands_piece`: blocks that are a record's pieces make up its image
pub pieces_join : (s d : List ℕ) (p m : ℕ) → ((j : ℕ) → j < m → block_at s (p + j) ≡ piece_of d j) → take (block_bytes * m) (drop (block_bytes * p) s) ≡ pieces_to d m
unfolding pieces_to
pieces_join s d p zero f = refl
pieces_join s d p (suc m) f =
    let next : block_bytes * suc m ≡ block_bytes * m + block_bytes = omega arith in
    let at : block_bytes * p + block_bytes * m ≡ block_bytes * (p + m) = omega arith in
    rw (next, take-add (block_bytes * m) block_bytes (drop (block_bytes * p) s), drop-drop (block_bytes * m) (block_bytes * p) s, at, f m (omega arith))
    (ap (λ (l : List ℕ). l ++ piece_of d m) (pieces_join s d p m (λ j h. f j (omega arith))))

-- piece j of the record's bytes are the bytes that block j uses
record_piece : (s : List ℕ) (p n j : ℕ) → block_bytes * (p + pieces_of n) ≤ length s → j < pieces_of n
    → take data_bytes (drop (data_bytes * j) (record_bytes s p n)) ≡ take (min data_bytes (n - data_bytes * j)) (drop head_bytes (block_at s (p + j)))
record_piece s p n j room h =
    let u : ℕ = min data_bytes (n - data_bytes * j) in
    let x : ℕ = block_bytes * (p + j) in
    let quotient : data_bytes * j / data_bytes ≡ j = omega arith in
    let rest : x + head_bytes + data_bytes * j % data_bytes ≡ x + head_bytes = omega arith in
    rw (take_there data_bytes (drop (data_bytes * j) (record_bytes s p n)), length-drop, record_length s p n room, record_part s p n room (data_bytes * j) u (omega arith) (omega arith), quotient, rest)
    (rw (← drop-drop head_bytes x s) (sym (part_of_front u head_bytes block_bytes (drop x s) (omega arith))))

module _ (s : List ℕ) (p n : ℕ) (bytes : Bytes s) (one : 1 ≤ n) (all : PiecesAt s p n) where
  room : block_bytes * (p + pieces_of n) ≤ length s
  room =
      let last : ℕ = pieces_of n - 1 in
      omega (arith, (piece_at s (p + last) bytes n last (all last (omega arith))).room)

  piece_stands : (j : ℕ) → j < pieces_of n → block_at s (p + j) ≡ piece_of (record_bytes s p n) j
  unfolding piece_of
  piece_stands j h =
      let r = piece_at s (p + j) bytes n j (all j h) in
      rw (record_length s p n room, record_piece s p n j room h) (whole_piece (block_at s (p + j)) r.bytes r.size n j r.class)

  pub pieces_length : length (record_bytes s p n) ≡ n
  pieces_length = record_length s p n room

  pub pieces_stand : StandsAt s p (record_of (record_bytes s p n))
  unfolding blocks_in image_of
  pieces_stand = rw pieces_length (pieces_join s (record_bytes s p n) p (pieces_of n) piece_stands)

  pub pieces_allowed : Allowed (record_of (record_bytes s p n))
  pieces_allowed =
      let r = piece_read s (p + 0) n 0 (all 0 (omega arith)) in
      rw pieces_length (r.0, r.1)
