-- The pieces of a record are a run of blocks, and where the record stands each block of the reel is its piece.
use mathlib.Core.Path.{◌≡◌, refl, ap, sym, ◌∙◌}
use mathlib.Core.List.{List, ◌++◌}
use Prim.Native.Nat.{ℕ, zero, suc, ◌+◌, ◌*◌, ◌≤◌, ◌<◌}
use native.Mathlib.Omega.{arith}
use lib.ListN.{length, take, drop, length-take}
use lib.Seq.{drop-drop}
use Rattle.tape.proofs.Blocks.{length_block}
use Rattle.tape.proofs.Runs.{length_run, part_of_front, part_of_run, run}
use Rattle.tape.specs.Layout.{piece_kind}
use Rattle.tape.specs.Numbers.{block_bytes, data_bytes, pieces_of}
use Rattle.tape.specs.Objects.{StandsAt, blocks_in, image_of, piece_of, pieces_to, record_of}

module _ (d : List ℕ) where
  pub length_piece : (j : ℕ) → length (piece_of d j) ≡ block_bytes
  unfolding piece_of
  length_piece j = length_block piece_kind (length d) j (take data_bytes (drop (data_bytes * j) d)) (rw length-take (omega arith))

  pieces_run : (m : ℕ) → pieces_to d m ≡ run (piece_of d) m
  unfolding pieces_to run
  pieces_run zero = refl
  pieces_run (suc m) = ap (λ (l : List ℕ). l ++ piece_of d m) (pieces_run m)

  pub length_pieces : (m : ℕ) → length (pieces_to d m) ≡ block_bytes * m
  length_pieces m = rw pieces_run (length_run (piece_of d) block_bytes m (λ j l. length_piece j))

  -- a part of piece q, looked for in the run of pieces
  pub part_of_pieces : (m q r c : ℕ) → q < m → r + c ≤ block_bytes → take c (drop (block_bytes * q + r) (pieces_to d m)) ≡ take c (drop r (piece_of d q))
  part_of_pieces m q r c l h = rw pieces_run (part_of_run (piece_of d) block_bytes m q r c (λ j k. length_piece j) l h)

  -- and on a reel where the record stands
  pub part_stands : (s : List ℕ) (p q r c : ℕ) → StandsAt s p (record_of d) → q < pieces_of (length d) → r + c ≤ block_bytes → take c (drop (block_bytes * (p + q) + r) s) ≡ take c (drop r (piece_of d q))
  unfolding blocks_in image_of
  part_stands s p q r c e l h =
      let m = pieces_of (length d) in
      let at : block_bytes * (p + q) + r ≡ block_bytes * p + (block_bytes * q + r) = omega arith in
      rw (at, ← drop-drop (block_bytes * q + r) (block_bytes * p) s)
      (sym (part_of_front c (block_bytes * q + r) (block_bytes * m) (drop (block_bytes * p) s) (omega arith))
      ∙ ap (λ (t : List ℕ). take c (drop (block_bytes * q + r) t)) e
      ∙ part_of_pieces m q r c l h)
