-- "Advance, in order" (01): a definition for each step. They stand last step first, so that each names the next; `advanced` is the whole. Each is written
-- for any record limit and EOT margin, with `Under` behind its name; at the end stand this unit's own, under the names of this table.
--
--    1  header word outside memory                                  step_header       here
--    2  ACK gives the message buffer to the unit                    step_owner        here
--    3  attention pending and the unit owns the buffer              step_attention    here
--    4  CVC clears VCK                                              step_volume       here
--    5  unknown code or mode                                        step_illegal      here, with Rules
--    6  NBA set and not Write Characteristics                       step_no_buffer     here
--    7  one of the packet's eight bytes outside memory (02, [2])    step_fetch        here
--    8  pointer bits above A17, or odd in Write Characteristics     step_pointer      here
--    9  tape command off line or with VCK; lock; block 0; length    step_executable   here, with Rules
--   10  data extent past the end of memory                          step_extent       here, with Rules
--   11  object doesn't fit the reel                                 written_at        motions/specs/Writes.antt, with no_room
use Rattle.std.specs.Prelude.{Bool, false, ◌||◌, ◌&&◌, not, List, ℕ, ◌+◌, ◌%◌, eqb, ltb, length}
use Rattle.lists.specs.Pick.{pick}
use Rattle.lists.specs.Words.{word_at}
use Rattle.tape.specs.Numbers.{margin, record_limit}
use Rattle.signals.specs.Bits.{ILA, ILC, NEF, WLE}
use Rattle.signals.specs.Codes.{command_of}
use Rattle.signals.specs.Header.{header_of, packet_of}
use Rattle.signals.specs.Numbers.{packet_bytes}
use Rattle.signals.specs.declared.packet.Header.{Header}
use Rattle.signals.specs.declared.packet.Packet.{Packet}
use Rattle.signals.specs.declared.counts.Residual.{Residual}
use Rattle.signals.specs.declared.counts.Residual.TheVariants as residual
use Rattle.state.specs.declared.Unit.{Unit}
use Rattle.motions.specs.Parts.{end, resting}
use Rattle.std.specs.Prelude.{Ok}
use Rattle.commands.specs.Ends.{still, told_under, untold, with_attention, with_owner, with_panel}
use Rattle.commands.specs.Commands.{carried_out_under}
use Rattle.advance.specs.Rules.{has_extent, is_illegal, is_tape, not_executable_under, whole_count, writes}
use Rattle.commands.specs.declared.plans.Done.TheVariants as answer
use Rattle.commands.specs.declared.plans.Plan.{Plan}

-- under any EOT margin
module _ (eotMargin : ℕ) where
  -- an end before the command is carried out: the tape stays
  unfoldable pub rejected_under : Unit → Bool → ℕ → ℕ → Residual → Plan
  rejected_under u ie class found left = told_under eotMargin u ie (resting (end class found 0 left) u.tape)

  -- "class 1, ATTN message, command lost .. Then none is pending, even where NBA held the message back."
  unfoldable pub attended_under : Unit → Bool → Plan
  attended_under u ie =
      rejected_under
      (with_attention u
      (record { unit_owns = u.attention.unit_owns; pending = false; release_ie = u.attention.release_ie }))
      ie
      1
      0
      residual.Nothing

-- under any record limit and any EOT margin
module _ (limit eotMargin : ℕ) where
  -- "10. Codes 1, 4, 5: data extent, pointer plus whole count, ends past the end of memory: NXM, class 5, tape unmoved."
  unfoldable pub step_extent_under : Unit → List ℕ → List ℕ → Header → Packet → Plan
  step_extent_under u m s h p =
      pick (has_extent h && ltb (length m) (p.pointer + p.count)) (rejected_under eotMargin u h.ie 5 0 (whole_count h p.count))
      (carried_out_under limit eotMargin u m s h p (command_of h.code h.mode))

  -- "9. Tape command off line or with VCK: NEF, class 3. Then in this order, class 3 each: Write or Format under write lock, NEF and
  -- WLE; reverse first stage at block 0 (not a rewind), NEF; a written length out of range, NEF."
  unfoldable pub step_executable_under : Unit → List ℕ → List ℕ → Header → Packet → Plan
  step_executable_under u m s h p =
      pick (is_tape h && (not u.panel.online || u.panel.vck)) (rejected_under eotMargin u h.ie 3 NEF (whole_count h p.count))
      (pick (writes h && u.panel.locked) (rejected_under eotMargin u h.ie 3 (NEF + WLE) (whole_count h p.count))
      (pick (not_executable_under limit u h p) (rejected_under eotMargin u h.ie 3 NEF (whole_count h p.count))
      (step_extent_under u m s h p)))

  -- "8. Pointer bits above A17, or odd pointer in Write Characteristics: ILA, class 3."
  unfoldable pub step_pointer_under : Unit → List ℕ → List ℕ → Header → Packet → Plan
  step_pointer_under u m s h p =
      pick (p.high || (eqb h.code 4 && eqb (p.pointer % 2) 1)) (rejected_under eotMargin u h.ie 3 ILA (whole_count h p.count))
      (step_executable_under u m s h p)

  -- "So step 7 of document 01 reads all eight bytes for every command and answers NXM, class 5, if any lies outside." (02, [2])
  unfoldable pub step_fetch_under : Unit → List ℕ → List ℕ → Header → Plan
  step_fetch_under u m s h =
      pick (ltb (length m) (u.registers.pointer + packet_bytes)) (rejected_under eotMargin u h.ie 5 0 residual.Nothing)
      (step_pointer_under u m s h (packet_of m u.registers.pointer h.code))

  -- "6. NBA set and not Write Characteristics: class 3."
  unfoldable pub step_no_buffer_under : Unit → List ℕ → List ℕ → Header → Plan
  step_no_buffer_under u m s h =
      pick (u.registers.nba && not (eqb h.code 4)) (rejected_under eotMargin u h.ie 3 0 residual.Nothing) (step_fetch_under u m s h)

  -- "5. Bits 7:5 neither 000 nor 100, or unknown code or mode: ILC, class 3."
  unfoldable pub step_illegal_under : Unit → List ℕ → List ℕ → Header → Plan
  step_illegal_under u m s h =
      pick (not h.plain || is_illegal (command_of h.code h.mode)) (rejected_under eotMargin u h.ie 3 ILC residual.Nothing)
      (step_no_buffer_under u m s h)

  -- "4. CVC (14) clears VCK."
  unfoldable pub step_volume_under : Unit → List ℕ → List ℕ → Header → Plan
  step_volume_under u m s h =
      step_illegal_under
      (with_panel u (record { online = u.panel.online; locked = u.panel.locked; vck = u.panel.vck && not h.cvc }))
      m
      s
      h

  -- "3. Attention pending and the unit owns the buffer"
  unfoldable pub step_attention_under : Unit → List ℕ → List ℕ → Header → Plan
  step_attention_under u m s h = pick u.attention.pending (attended_under eotMargin u h.ie) (step_volume_under u m s h)

  -- "2. ACK (15) gives the message buffer to the unit. No ACK while the CPU owns it: SSR set, class 0, no message, the command isn't run."
  unfoldable pub step_owner_under : Unit → List ℕ → List ℕ → Header → Plan
  step_owner_under u m s h =
      pick (u.attention.unit_owns || h.ack) (step_attention_under (with_owner u (u.attention.unit_owns || h.ack)) m s h)
      (untold (with_owner u (u.attention.unit_owns || h.ack)) 0 h.ie)

  -- "1. Header word outside memory: NXM, class 5, no message, no interrupt, the message buffer's owner kept."
  unfoldable pub step_header_under : Unit → List ℕ → List ℕ → Plan
  step_header_under u m s =
      pick (ltb (length m) (u.registers.pointer + 2)) (untold u 5 false)
      (step_owner_under u m s (header_of (word_at m u.registers.pointer)))

  -- "A command waits .. exactly while SSR is clear." "Advance with no command waiting and no attention to send answers Idle"; "Idle advance
  -- does the same without a command", with the release's IE
  unfoldable pub advanced_under : Unit → List ℕ → List ℕ → Plan
  advanced_under u m s =
      pick u.registers.ssr
      (pick (u.attention.pending && u.attention.unit_owns) (attended_under eotMargin u u.attention.release_ie) (still u (Ok answer.Idle)))
      (step_header_under u m s)

-- and under this unit's own
abbrev pub rejected : Unit → Bool → ℕ → ℕ → Residual → Plan
rejected = rejected_under margin

abbrev pub attended : Unit → Bool → Plan
attended = attended_under margin

abbrev pub step_extent : Unit → List ℕ → List ℕ → Header → Packet → Plan
step_extent = step_extent_under record_limit margin

abbrev pub step_executable : Unit → List ℕ → List ℕ → Header → Packet → Plan
step_executable = step_executable_under record_limit margin

abbrev pub step_pointer : Unit → List ℕ → List ℕ → Header → Packet → Plan
step_pointer = step_pointer_under record_limit margin

abbrev pub step_fetch : Unit → List ℕ → List ℕ → Header → Plan
step_fetch = step_fetch_under record_limit margin

abbrev pub step_no_buffer : Unit → List ℕ → List ℕ → Header → Plan
step_no_buffer = step_no_buffer_under record_limit margin

abbrev pub step_illegal : Unit → List ℕ → List ℕ → Header → Plan
step_illegal = step_illegal_under record_limit margin

abbrev pub step_volume : Unit → List ℕ → List ℕ → Header → Plan
step_volume = step_volume_under record_limit margin

abbrev pub step_attention : Unit → List ℕ → List ℕ → Header → Plan
step_attention = step_attention_under record_limit margin

abbrev pub step_owner : Unit → List ℕ → List ℕ → Header → Plan
step_owner = step_owner_under record_limit margin

abbrev pub step_header : Unit → List ℕ → List ℕ → Plan
step_header = step_header_under record_limit margin

abbrev pub advanced : Unit → List ℕ → List ℕ → Plan
advanced = advanced_under record_limit margin
