-- "Proved together, as one table" (01): P1 to P7 of the unit, P8 to P11 of the reel, P12 of the journal.
use Rattle.std.specs.Prelude.{◌≡◌, Bool, true, false, List, [], ◌∷◌, ℕ, ◌+◌, ◌*◌, ◌%◌, ◌<◌, ◌≤◌, get_or, length, Ok}
use Rattle.std.proofs.lemmas.List.Edits.{sets}
use Rattle.lists.specs.Places.{place, placed}
use Rattle.lists.specs.Words.{word_at}
use Rattle.tape.specs.Bytes.{read_into, record_bytes}
use Rattle.tape.specs.Numbers.{block_bytes, eot_marker, summed_bytes}
use Rattle.tape.specs.Objects.{Object, blocks_in, image_of, mark, record_of}
use Rattle.signals.specs.declared.packet.Header.{Header}
use Rattle.signals.specs.declared.packet.Packet.{Packet}
use Rattle.state.specs.Changes.{mounted_as, pointer_of, tsdb_written}
use Rattle.state.specs.Readings.{tssr_of}
use Rattle.state.specs.declared.Lengths.{Lengths}
use Rattle.state.specs.declared.Unit.{Unit}
use Rattle.moves.specs.Seeking.{sought}
use Rattle.moves.specs.declared.seeking.Sought.TheVariants as sought-as
use Rattle.motions.specs.Reads.{bytes, read_end}
use Rattle.commands.specs.Commands.{read_by, released}
use Rattle.commands.specs.declared.plans.Plan.{Plan}
use Rattle.storing.specs.Stored.{moved_on}
use Rattle.unit.specs.Cores.{Core}
use Rattle.unit.specs.Steps.{carried}
use Rattle.entries.specs.Entries.{entry_length}
use Rattle.worlds.specs.Calls.{entry_for}

-- "count 10, record 7": a Read of 10 bytes that meets a record of 7, beyond which the position is q
pub record ShortRead (u : Unit) (s : List ℕ) (p : Packet) (reverse : Bool) (q : ℕ) : Type 0 where
  pub asked : p.count ≡ 10
  pub met : sought s reverse u.tape.position u.tape.end ≡ Ok (sought-as.Record 7 q)

-- what a Read next, or previous, is about to do
abbrev pub read_plan : Unit → List ℕ → Header → Packet → Bool → Plan
read_plan u s h p reverse = read_by u s h p reverse

-- on line, RMR, NXM and NBA clear, "address below 65,536"
pub record Clear (u : Unit) : Type 0 where
  pub online : u.panel.online ≡ true
  pub rmr : u.registers.rmr ≡ false
  pub nxm : u.registers.nxm ≡ false
  pub nba : u.registers.nba ≡ false
  pub address : u.registers.pointer < 65536

-- "no IE, unlocked, before EOT, VCK clear", on line; q is the position after
pub record Plain (u : Unit) (h : Header) (q : ℕ) : Type 0 where
  pub online : u.panel.online ≡ true
  pub ie : h.ie ≡ false
  pub unlocked : u.panel.locked ≡ false
  pub eot : q < eot_marker u.lengths.blocks
  pub vck : u.panel.vck ≡ false
  pub place : u.tape.position ≤ u.tape.end

-- the check word of an object of one block
abbrev pub check_word : Object → ℕ
check_word o = word_at (image_of o) summed_bytes

-- "AB"
abbrev pub ab : List ℕ
ab = 0x41 ∷ 0x42 ∷ []

pub record Table : Type 0 where
  -- "P1 fresh on line: TSSR 0480 hex."
  pub p1 : (e : ℕ) (locked : Bool) (lengths : Lengths) → tssr_of (mounted_as e true locked lengths) ≡ 0x0480
  -- "P2 TSDB 1236 hex names 21234 hex."
  pub p2 : pointer_of 0x1236 ≡ 0x21234
  pub p2_written : (u : Unit) → u.registers.ssr ≡ true → (tsdb_written u 0x1236).registers.pointer ≡ 0x21234
  -- "P3 count 10, record 7: residual 3." It is the message's third word.
  pub p3 : (rev : Bool) → (read_end 7 (record { 0 = 10 }) rev).residual ≡ bytes 3
  pub p3_message : (u : Unit) (s : List ℕ) (h : Header) (p : Packet) (reverse : Bool) (q : ℕ) → ShortRead u s p reverse q → get_or (read_plan u s h p reverse).message 2 0 ≡ 3
  -- "P4 its TSSR 8084 hex (address below 65,536)."
  pub p4 : (u : Unit) (s : List ℕ) (h : Header) (p : Packet) (reverse : Bool) (q : ℕ) → ShortRead u s p reverse q → Clear u → tssr_of (read_plan u s h p reverse).unit ≡ 0x8084
  -- "P5 its XST0 40C8 hex (no IE, unlocked, before EOT, VCK clear)." It is the message's fourth word.
  pub p5 : (u : Unit) (s : List ℕ) (h : Header) (p : Packet) (q : ℕ) → ShortRead u s p false q → Plain u h q → get_or (read_plan u s h p false).message 3 0 ≡ 0x40C8
  -- "P6 the same in reverse at 1000: bytes at 1003 to 1009."
  pub p6 : (m d : List ℕ) → length d ≡ 7 → read_into true false m 1000 10 d ≡ sets m 1003 d
  pub p6_stored : (u : Unit) (m s : List ℕ) (h : Header) (p : Packet) (q : ℕ) → ShortRead u s p true q → u.tape.position ≤ u.tape.end → block_bytes * u.tape.end ≤ length s → p.pointer ≡ 1000 → h.swb ≡ false
      → (length (record_bytes s q 7) ≡ 7) × (moved_on s (read_plan u s h p true).moved m ≡ sets m 1003 (record_bytes s q 7))
  -- "P7 SWB, 1001, 8 bytes: byte 0 at 1000, byte 7 at 1009."
  pub p7 : (place true (1001 + 0) ≡ 1000) × (place true (1001 + 7) ≡ 1009)
  pub p7_first : (m d : List ℕ) → length d ≡ 8 → 1010 ≤ length m → length m % 2 ≡ 0 → get_or (placed true m 1001 d) 1000 0 ≡ get_or d 0 0
  pub p7_last : (m d : List ℕ) → length d ≡ 8 → 1010 ≤ length m → length m % 2 ≡ 0 → get_or (placed true m 1001 d) 1009 0 ≡ get_or d 7 0
  -- "P7 leaves 1001 and 1008 untouched."
  pub p7_after_first : (m d : List ℕ) → length d ≡ 8 → get_or (placed true m 1001 d) 1001 0 ≡ get_or m 1001 0
  pub p7_before_last : (m d : List ℕ) → length d ≡ 8 → get_or (placed true m 1001 d) 1008 0 ≡ get_or m 1008 0
  -- "P8 a mark block's check is 2."
  pub p8 : check_word mark ≡ 2
  -- "P9 record "AB": check 4244 hex."
  pub p9 : check_word (record_of ab) ≡ 0x4244
  -- "P10 504 bytes, 1 block; 505, 2."
  pub p10_one : (d : List ℕ) → length d ≡ 504 → blocks_in (record_of d) ≡ 1
  pub p10_two : (d : List ℕ) → length d ≡ 505 → blocks_in (record_of d) ≡ 2
  -- "P11 16,384 bytes, 33."
  pub p11 : (d : List ℕ) → length d ≡ 16384 → blocks_in (record_of d) ≡ 33
  -- "P11 gets a neighbour: 65,535 bytes, 131 blocks" (02, [7])
  pub p11_longest : (d : List ℕ) → length d ≡ 65535 → blocks_in (record_of d) ≡ 131
  -- "P12 release: entry 128."
  pub p12 : (k : ℕ) (c : Core) (ie : Bool) → entry_length (entry_for k c (carried c (released c.unit ie))) ≡ 128
