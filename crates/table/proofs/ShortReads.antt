-- "count 10, record 7" (01): what such a Read tells and where its bytes go.
use mathlib.Core.Bool.{Bool, true, false}
use mathlib.Core.List.{List}
use mathlib.Core.Path.{◌≡◌, refl}
use Prim.Native.Nat.{ℕ, ◌*◌, ◌/◌, ◌%◌, ◌<◌, ◌≤◌}
use native.Mathlib.Omega.{arith}
use borrow.Author.Tests.{lt-leb, ne_eqb}
use lib.ListN.{get_or, length}
use lib.Seq.{sets}
use Rattle.lists.proofs.Placed.{placed_plain}
use Rattle.tape.specs.Bytes.{moved_bytes, moved_to, read_into, record_bytes}
use Rattle.tape.specs.Numbers.{block_bytes, eot_marker}
use Rattle.tape.proofs.Recorded.{record_length}
use Rattle.signals.specs.Message.{message_of}
use Rattle.signals.specs.declared.packet.Header.{Header}
use Rattle.signals.specs.declared.packet.Packet.{Packet}
use Rattle.state.specs.Readings.{tssr_of}
use Rattle.state.specs.declared.Unit.{Unit}
use Rattle.moves.proofs.Within.{sought_in, sought_record}
use Rattle.motions.specs.Parts.{standing}
use Rattle.motions.specs.Reads.{first_block, on_record, read_end, read_motion, read_one_under, stage_by, stage_of_under}
use Rattle.commands.specs.Commands.{asked, read_by_under}
use Rattle.commands.specs.Ends.{ended, motion_plan, motion_plan_under, status_of_under, told_under, told_unit}
use Rattle.storing.specs.Stored.{moved_on}
use Rattle.table.specs.Table.{Clear, Plain, ShortRead, read_plan}

module _ (u : Unit) (s : List ℕ) (h : Header) (p : Packet) (reverse : Bool) (q : ℕ) (w : ShortRead u s p reverse q) where
  -- the record is found, and the Read ends with it
  found : read_plan u s h p reverse ≡ motion_plan u h.ie (read_motion (asked h p) reverse 7 q (standing q u.tape.end) reverse)
  unfolding read_by_under read_one_under stage_of_under stage_by on_record
  found = rw w.met

  pub short_residual : get_or (read_plan u s h p reverse).message 2 0 ≡ 3
  unfolding motion_plan_under read_motion read_end told_under message_of
  short_residual = rw (found, w.asked)

  pub short_tssr : Clear u → tssr_of (read_plan u s h p reverse).unit ≡ 0x8084
  unfolding motion_plan_under read_motion read_end told_under told_unit ended tssr_of
  short_tssr c =
      let high : u.registers.pointer / 131072 % 2 ≡ 0 = omega (arith, c.address) in
      let low : u.registers.pointer / 65536 % 2 ≡ 0 = omega (arith, c.address) in
      rw (found, w.asked, c.rmr, c.nxm, c.nba, c.online, high, low)

module _ (u : Unit) (s : List ℕ) (h : Header) (p : Packet) (q : ℕ) where
  pub short_status : ShortRead u s p false q → Plain u h q → get_or (read_plan u s h p false).message 3 0 ≡ 0x40C8
  unfolding motion_plan_under read_motion read_end told_under told_unit ended message_of status_of_under
  short_status w c =
      let onward : u.tape.position < q = (rw w.met at (sought_in s false u.tape.position u.tape.end c.place)).1.up refl in
      rw (found u s h p false q w, w.asked, c.online, c.ie, c.unlocked, c.vck, ne_eqb u.tape.position q (λ z. omega arith), ne_eqb q 0 (λ z. omega arith), lt-leb (eot_marker u.lengths.blocks) q c.eot)

-- seven bytes lie at the high end of ten
pub high_end : (m d : List ℕ) → length d ≡ 7 → read_into true false m 1000 10 d ≡ sets m 1003 d
unfolding read_into moved_to moved_bytes
high_end m d e = rw e (placed_plain m 1003 d)

module _ (u : Unit) (m s : List ℕ) (h : Header) (p : Packet) (q : ℕ) (w : ShortRead u s p true q) where
  pub short_stored : u.tape.position ≤ u.tape.end → block_bytes * u.tape.end ≤ length s → p.pointer ≡ 1000 → h.swb ≡ false
      → (length (record_bytes s q 7) ≡ 7) × (moved_on s (read_plan u s h p true).moved m ≡ sets m 1003 (record_bytes s q 7))
  unfolding motion_plan_under read_motion told_under first_block moved_on
  short_stored below room at swb =
      let inside = (sought_record s true u.tape.position u.tape.end below w.met).inside in
      let long : length (record_bytes s q 7) ≡ 7 = record_length s q 7 (omega arith) in
      (long, rw (found u s h p true q w, w.asked, at, swb) (high_end m (record_bytes s q 7) long))
