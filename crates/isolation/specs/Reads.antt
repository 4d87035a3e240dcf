-- What an advance reads from memory: the packet of the command that waits, the data of a Write, and the data of Write Characteristics. (02, [9]: "the bytes
-- the remaining unit reads from memory")
use Rattle.std.specs.Prelude.{false, List, ◌≡◌, ℕ, ◌+◌, ◌<◌, min, get_or, length}
use Rattle.lists.specs.Places.{place}
use Rattle.lists.specs.Words.{word_at}
use Rattle.signals.specs.Header.{header_of, packet_of}
use Rattle.signals.specs.Numbers.{packet_bytes}
use Rattle.signals.specs.declared.packet.Header.{Header}
use Rattle.signals.specs.declared.packet.Packet.{Packet}
use Rattle.state.specs.declared.Unit.{Unit}
use Rattle.touched.specs.declared.Touched.{Touched}

-- the header and the packet at the command pointer
abbrev pub header_at : Unit → List ℕ → Header
header_at u m = header_of (word_at m u.registers.pointer)

abbrev pub packet_at : Unit → List ℕ → Packet
packet_at u m = packet_of m u.registers.pointer (header_at u m).code

-- the byte at address j is read by an advance of a unit in state u over memory m; with no command waiting none is
pub data ReadsAt (u : Unit) (m : List ℕ) (j : ℕ) : Type 0 where
  of_packet : {i : ℕ} → u.registers.ssr ≡ false → i < packet_bytes → j ≡ u.registers.pointer + i → ReadsAt u m j
  of_characteristics : {i : ℕ} → u.registers.ssr ≡ false → (header_at u m).code ≡ 4 → i < min 8 (packet_at u m).count → j ≡ (packet_at u m).pointer + i → ReadsAt u m j
  of_data : {i : ℕ} → u.registers.ssr ≡ false → (header_at u m).code ≡ 5 → i < (packet_at u m).count → j ≡ place (header_at u m).swb ((packet_at u m).pointer + i) → ReadsAt u m j

-- two memories that are the same in every byte that the advance reads
pub record SameRead (u : Unit) (m m' : List ℕ) : Type 0 where
  pub long : length m ≡ length m'
  pub bytes : (j : ℕ) → ReadsAt u m j → get_or m j 0 ≡ get_or m' j 0

-- a step that touches the places t stores at address j: a byte of data, or one of the message
pub data TouchesAt (t : Touched) (j : ℕ) : Type 0 where
  touches_data : {i : ℕ} → i < t.data_length → j ≡ place t.swb (t.data_at + i) → TouchesAt t j
  touches_message : {i : ℕ} → i < t.message_length → j ≡ t.message_at + i → TouchesAt t j
