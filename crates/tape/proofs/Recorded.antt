-- The bytes of a record on the reel: how many, where each run of them lies, and that a record that stands there is read back.
use mathlib.Core.Path.{◌≡◌, refl, ap, ◌∙◌}
use mathlib.Core.List.{List, ◌++◌, append_assoc, append-nil}
use Prim.Native.Nat.{ℕ, zero, suc, ◌+◌, ◌-◌, ◌*◌, ◌/◌, ◌%◌, ◌≤◌, ◌<◌}
use native.Mathlib.Nat.{zero-sub}
use native.Mathlib.Omega.{arith}
use lib.ListN.{length, take, drop, length-drop, length-take, replicate}
use lib.Seq.{drop-drop, length-take-le, take-add, take_all, take-append_seam}
use Rattle.tape.proofs.Blocks.{block_field}
use Rattle.tape.proofs.PieceRun.{part_stands}
use Rattle.tape.proofs.Runs.{length_run, part_of_front, part_of_run, run}
use Rattle.tape.specs.Bytes.{data_below, record_bytes}
use Rattle.tape.specs.Layout.{piece_kind}
use Rattle.tape.specs.Numbers.{block_bytes, data_bytes, head_bytes, pieces_of, record_limit}
use Rattle.tape.specs.Objects.{StandsAt, piece_of, record_of}

-- the data bytes of block p + j
abbrev data_of : List ℕ → ℕ → ℕ → List ℕ
data_of s p j = take data_bytes (drop (block_bytes * (p + j) + head_bytes) s)

data_run_lem : (s : List ℕ) (p m : ℕ) → data_below s p m ≡ run (data_of s p) m
unfolding data_below run
data_run_lem s p zero = refl
data_run_lem s p (suc m) = ap (λ (l : List ℕ). l ++ data_of s p m) (data_run_lem s p m)

module _ (s : List ℕ) (p m : ℕ) (h : block_bytes * (p + m) ≤ length s) where
  length_data : (j : ℕ) → j < m → length (data_of s p j) ≡ data_bytes
  length_data j l = length-take-le data_bytes (drop (block_bytes * (p + j) + head_bytes) s) (rw length-drop (omega arith))

  length_below : length (data_below s p m) ≡ data_bytes * m
  length_below = rw data_run_lem (length_run (data_of s p) data_bytes m length_data)

  data_part : (q r c : ℕ) → q < m → r + c ≤ data_bytes → take c (drop (data_bytes * q + r) (data_below s p m)) ≡ take c (drop (block_bytes * (p + q) + head_bytes + r) s)
  data_part q r c l k =
      rw (data_run_lem, part_of_run (data_of s p) data_bytes m q r c length_data l k, part_of_front c r data_bytes (drop (block_bytes * (p + q) + head_bytes) s) k, drop-drop)

module _ (s : List ℕ) (p n : ℕ) (h : block_bytes * (p + pieces_of n) ≤ length s) where
  pub record_length : length (record_bytes s p n) ≡ n
  unfolding record_bytes
  record_length = length-take-le n (data_below s p (pieces_of n)) (rw (length_below s p (pieces_of n) h) (omega arith))

  -- c bytes from byte i on, if one block holds them
  pub record_part : (i c : ℕ) → i % data_bytes + c ≤ data_bytes → i + c ≤ n → take c (drop i (record_bytes s p n)) ≡ take c (drop (block_bytes * (p + i / data_bytes) + head_bytes + i % data_bytes) s)
  unfolding record_bytes
  record_part i zero k l = refl
  record_part i (suc c) k l =
      let e : i ≡ data_bytes * (i / data_bytes) + i % data_bytes = omega arith in
      part_of_front (suc c) i n (data_below s p (pieces_of n)) l
      ∙ ap (λ (j : ℕ). take (suc c) (drop j (data_below s p (pieces_of n)))) e
      ∙ data_part s p (pieces_of n) h (i / data_bytes) (i % data_bytes) (suc c) (omega arith) k

-- the first a bytes of d, filled up with 0, and the next w of them, filled up with 0
fill_more : (d : List ℕ) (a w : ℕ) → a ≤ length d → take a d ++ replicate (a - length d) 0 ++ (take w (drop a d) ++ replicate (w - length (take w (drop a d))) 0) ≡ take (a + w) d ++ replicate (a + w - length d) 0
fill_more d a w h =
    let none : a - length d ≡ 0 = omega arith in
    let rest : w - length (take w (drop a d)) ≡ a + w - length d = rw (length-take, length-drop) (omega arith) in
    rw (none, append-nil, rest, ← append_assoc, take-add a w d)

module _ (s : List ℕ) (p : ℕ) (d : List ℕ) (e : StandsAt s p (record_of d)) where
  piece_stands : (j : ℕ) → j < pieces_of (length d) → data_of s p j ≡ take data_bytes (drop (data_bytes * j) d) ++ replicate (data_bytes - length (take data_bytes (drop (data_bytes * j) d))) 0
  unfolding piece_of
  piece_stands j l =
      part_stands d s p j head_bytes data_bytes e l (omega arith)
      ∙ block_field piece_kind (length d) j (take data_bytes (drop (data_bytes * j) d)) (rw length-take (omega arith))

  data_stands : (m : ℕ) → m ≤ pieces_of (length d) → data_below s p m ≡ take (data_bytes * m) d ++ replicate (data_bytes * m - length d) 0
  unfolding data_below
  data_stands zero l = rw zero-sub
  data_stands (suc m) l =
      let next : data_bytes * suc m ≡ data_bytes * m + data_bytes = omega arith in
      rw (data_stands m (omega arith), piece_stands m l, next) (fill_more d (data_bytes * m) data_bytes (omega arith))

  pub record_stands : 1 ≤ length d → length d ≤ record_limit → record_bytes s p (length d) ≡ d
  unfolding record_bytes
  record_stands _ _ =
      rw (data_stands (pieces_of (length d)) (omega arith), take_all (data_bytes * pieces_of (length d)) d (omega arith)) (take-append_seam d _)
