-- What a laid block looks like: its size, its three words, its data, and that it is made of bytes.
use mathlib.Core.Path.{◌≡◌}
use mathlib.Core.List.{List, ◌++◌, append_assoc}
use Prim.Native.Nat.{ℕ, zero, suc, ◌-◌, ◌≤◌, ◌<◌}
use native.Mathlib.Omega.{arith}
use lib.ListN.{length, take, drop, replicate, length-append, length-replicate}
use lib.Seq.{take-append_seam, take_at}
use Rattle.lists.proofs.Bytes.{bytes_append}
use Rattle.lists.proofs.Sums.{word_back}
use Rattle.lists.specs.Words.{word_at, word_bytes, word_limit, Bytes}
use Rattle.tape.specs.Layout.{block_of, body_of, check_of}
use Rattle.tape.specs.Numbers.{block_bytes, check_modulus, data_bytes, head_bytes, summed_bytes}

-- the bytes 0 after the data
bytes_zeros : (m : ℕ) → Bytes (replicate m 0)
bytes_zeros zero i = omega arith
bytes_zeros (suc m) zero = omega arith
bytes_zeros (suc m) (suc i) = bytes_zeros m i

bytes_word : (w : ℕ) → w < word_limit → Bytes (word_bytes w)
bytes_word w h zero = omega arith
bytes_word w h (suc zero) = omega arith
bytes_word w h (suc (suc i)) = omega arith

check_small : (l : List ℕ) → check_of l < check_modulus
unfolding check_of
check_small l = omega arith

front : (d z c : List ℕ) → take (length d) (d ++ z ++ c) ≡ d
front d z c = rw (append_assoc d z c) (take-append_seam d (z ++ c))

module _ (k n i : ℕ) (d : List ℕ) where
  pub length_body : length d ≤ data_bytes → length (body_of k n i d) ≡ summed_bytes
  unfolding body_of
  length_body h = rw (length-append, length-replicate) (omega arith)

  pub length_block : length d ≤ data_bytes → length (block_of k n i d) ≡ block_bytes
  unfolding block_of
  length_block h = rw (length-append, length_body h)

  pub block_kind : word_at (block_of k n i d) 0 ≡ k
  unfolding block_of body_of
  block_kind = word_back k

  pub block_length : word_at (block_of k n i d) 2 ≡ n
  unfolding block_of body_of
  block_length = word_back n

  pub block_index : word_at (block_of k n i d) 4 ≡ i
  unfolding block_of body_of
  block_index = word_back i

  pub block_data : length d ≤ data_bytes → take (length d) (drop head_bytes (block_of k n i d)) ≡ d
  unfolding block_of body_of
  block_data _ = front d (replicate (data_bytes - length d) 0) (word_bytes (check_of (body_of k n i d)))

  -- all the data bytes, the unused ones too
  pub block_field : length d ≤ data_bytes → take data_bytes (drop head_bytes (block_of k n i d)) ≡ d ++ replicate (data_bytes - length d) 0
  unfolding block_of body_of
  block_field h =
      take_at (d ++ replicate (data_bytes - length d) 0) (word_bytes (check_of (body_of k n i d))) data_bytes (rw (length-append, length-replicate) (omega arith))

  bytes_body : Bytes d → k < word_limit → n < word_limit → i < word_limit → Bytes (body_of k n i d)
  unfolding body_of
  bytes_body b hk hn hi =
      bytes_append (word_bytes k ++ word_bytes n ++ word_bytes i ++ d) (replicate (data_bytes - length d) 0)
      (bytes_append (word_bytes k ++ word_bytes n ++ word_bytes i) d
      (bytes_append (word_bytes k ++ word_bytes n) (word_bytes i)
      (bytes_append (word_bytes k) (word_bytes n) (bytes_word k hk) (bytes_word n hn))
      (bytes_word i hi))
      b)
      (bytes_zeros (data_bytes - length d))

  pub bytes_block : Bytes d → k < word_limit → n < word_limit → i < word_limit → length d ≤ data_bytes → Bytes (block_of k n i d)
  unfolding block_of
  bytes_block b hk hn hi _ =
      let c = check_of (body_of k n i d) in
      bytes_append (body_of k n i d) (word_bytes c) (bytes_body b hk hn hi) (bytes_word c (omega (arith, check_small (body_of k n i d))))
