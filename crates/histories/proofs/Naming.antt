-- Whom the newest entry names, whatever its other numbers are: the last number of its head.
use mathlib.Core.Path.{◌≡◌, ap, ◌∙◌}
use mathlib.Core.List.{List, [], ◌++◌, append_assoc, append-nil}
use Prim.Native.Nat.{ℕ, ◌+◌, ◌-◌, ◌%◌, ◌<◌}
use native.Mathlib.Omega.{arith}
use lib.ListN.{length, length-append}
use lib.Seq.{drop_at}
use Rattle.lists.specs.Fours.{number_bytes, number_limit}
use Rattle.touched.specs.Touches.{saved_bytes}
use Rattle.entries.specs.Bytes.{head_count, head_length, head_numbers, numbers_bytes}
use Rattle.entries.specs.Entries.{entry_bytes, entry_length, newest_entry}
use Rattle.entries.specs.Numbers.{entry_of, numbers_of, state_numbers}
use Rattle.entries.specs.declared.Entry.{Entry}
use Rattle.entries.proofs.Back.{length_numbers}
use Rattle.entries.proofs.HeadBytes.{head_back}
use Rattle.entries.proofs.Joined.{head_long}

module _ (e : Entry) (top : ℕ) where
  last_number : e.transport < number_limit → (entry_of (numbers_of e) top).transport ≡ e.transport
  unfolding numbers_of state_numbers entry_of
  last_number h = let low : e.transport % number_limit ≡ e.transport = omega arith in low

  head_names : e.transport < number_limit → (entry_of (head_numbers head_count (numbers_bytes (numbers_of e))) top).transport ≡ e.transport
  head_names h = rw (← length_numbers e, ← append-nil (numbers_bytes (numbers_of e)), head_back (numbers_of e) []) (last_number h)

  module _ (m r tb j : List ℕ) where
    abbrev front : List ℕ
    front = j ++ (number_bytes (entry_length e) ++ saved_bytes e.touched m r tb)

    head_last : j ++ entry_bytes e m r tb ≡ front ++ numbers_bytes (numbers_of e)
    unfolding entry_bytes
    head_last = simp append_assoc

    pub newest_names : e.transport < number_limit → (newest_entry top (j ++ entry_bytes e m r tb)).transport ≡ e.transport
    unfolding newest_entry
    newest_names h =
        let whole : length (front ++ numbers_bytes (numbers_of e)) ≡ length front + head_length = length-append front (numbers_bytes (numbers_of e)) ∙ ap (λ (k : ℕ). length front + k) (head_long e) in
        let at : length front ≡ length (front ++ numbers_bytes (numbers_of e)) - head_length = omega (arith, whole) in
        rw (head_last, drop_at front (numbers_bytes (numbers_of e)) (length (front ++ numbers_bytes (numbers_of e)) - head_length) at) (head_names h)
