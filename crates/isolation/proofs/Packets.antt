-- Two memories that are the same where an advance reads hold the same header and packet.
use mathlib.Core.Bool.{false}
use mathlib.Core.List.{List}
use mathlib.Core.Path.{◌≡◌}
use Prim.Native.Nat.{ℕ, ◌+◌, ◌<◌}
use native.Mathlib.Omega.{arith}
use Rattle.lists.specs.Words.{word_at}
use Rattle.signals.specs.Header.{packet_of}
use Rattle.signals.specs.Numbers.{packet_bytes}
use Rattle.state.specs.declared.Unit.{Unit}
use Rattle.isolation.specs.Reads.{SameRead, header_at, of_packet, packet_at}

module _ {u : Unit} {m m' : List ℕ} (r : SameRead u m m') (w : u.registers.ssr ≡ false) where
  -- a word of the packet, i bytes behind the command pointer
  word_same : (j i : ℕ) → i + 1 < packet_bytes → j ≡ u.registers.pointer + i → word_at m j ≡ word_at m' j
  word_same j i h e = rw (r.bytes j (of_packet {i = i} w (omega arith) e), r.bytes (j + 1) (of_packet {i = i + 1} w h (omega arith)))

  pub header_same : header_at u m ≡ header_at u m'
  header_same = rw (word_same u.registers.pointer 0 (omega arith) (omega arith))

  pub packet_same : (code : ℕ) → packet_of m u.registers.pointer code ≡ packet_of m' u.registers.pointer code
  unfolding packet_of
  packet_same code =
      let at : ℕ = u.registers.pointer in
      rw (word_same (at + 2) 2 (omega arith) (omega arith), word_same (at + 4) 4 (omega arith) (omega arith), word_same (at + 6) 6 (omega arith) (omega arith))

  pub fetched_same : packet_at u m ≡ packet_at u m'
  fetched_same = rw (header_same, packet_same (header_at u m').code)
