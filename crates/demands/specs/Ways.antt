-- "Advance, in order" (01; step 7 as 02, [2] has it), told as cases: what an advance of the state u over memory m and reel s comes to, and under exactly which
-- condition. The conditions of a case hold all that stands before it in the paper's order, so no two cases meet.
use Rattle.std.specs.Prelude.{Bool, true, false, ◌||◌, ◌&&◌, not, List, ◌≡◌, ℕ, ◌+◌, ◌%◌, ◌<◌, ◌≤◌, eqb, ltb, length}
use Rattle.lists.specs.Words.{word_at}
use Rattle.signals.specs.Bits.{ILA, ILC, NEF, WLE}
use Rattle.signals.specs.Codes.{command_of}
use Rattle.signals.specs.Header.{header_of, packet_of}
use Rattle.signals.specs.Numbers.{packet_bytes}
use Rattle.signals.specs.declared.packet.Header.{Header}
use Rattle.signals.specs.declared.packet.Packet.{Packet}
use Rattle.signals.specs.declared.counts.Residual.{Residual}
use Rattle.signals.specs.declared.counts.Residual.TheVariants as residual
use Rattle.state.specs.declared.Unit.{Unit}
use Rattle.motions.specs.Parts.{end, resting}
use Rattle.std.specs.Prelude.{Ok}
use Rattle.commands.specs.Ends.{still, told, untold, with_attention, with_owner, with_panel}
use Rattle.commands.specs.Commands.{carried_out}
use Rattle.commands.specs.declared.plans.Done.TheVariants as answer
use Rattle.commands.specs.declared.plans.Plan.{Plan}
use Rattle.advance.specs.Rules.{has_extent, is_illegal, is_tape, not_executable, whole_count, writes}

-- an end that is told with the tape where it stands: class, what XST0 shows, residual
abbrev pub ends : Unit → Bool → ℕ → ℕ → Residual → Plan
ends v ie class found left = told v ie (resting (end class found 0 left) v.tape)

-- the state with no attention pending
abbrev pub attended_to : Unit → Unit
attended_to v =
    with_attention v
    (record { unit_owns = v.attention.unit_owns; pending = false; release_ie = v.attention.release_ie })

module _ (u : Unit) (m s : List ℕ) where
  -- the header of the command that waits, and its packet
  abbrev pub header : Header
  header = header_of (word_at m u.registers.pointer)

  abbrev pub packet : Packet
  packet = packet_of m u.registers.pointer header.code

  -- step 2: ACK gives the message buffer to the unit
  abbrev pub owning : Unit
  owning = with_owner u (u.attention.unit_owns || header.ack)

  -- step 4: CVC clears VCK
  abbrev pub started : Unit
  started =
      with_panel owning (record { online = u.panel.online; locked = u.panel.locked; vck = u.panel.vck && not header.cvc })

  -- "A command waits .. exactly while SSR is clear", and its header lies in memory
  pub record Waits : Type 0 where
    pub waiting : u.registers.ssr ≡ false
    pub within : u.registers.pointer + 2 ≤ length m

  -- and the unit owns the message buffer, and no attention is pending
  pub record Begins : Type 0 where
    pub waits : Waits
    pub owns : (u.attention.unit_owns || header.ack) ≡ true
    pub quiet : u.attention.pending ≡ false

  -- and the command is known, has a message buffer or gives one, and all eight bytes of its packet lie in memory, whichever it uses
  pub record Fetched : Type 0 where
    pub begins : Begins
    pub known : (not header.plain || is_illegal (command_of header.code header.mode)) ≡ false
    pub buffer : (u.registers.nba && not (eqb header.code 4)) ≡ false
    pub words : u.registers.pointer + packet_bytes ≤ length m

  -- and its data pointer is one, and nothing keeps it from running
  pub record Runs : Type 0 where
    pub fetched : Fetched
    pub pointer : (packet.high || (eqb header.code 4 && eqb (packet.pointer % 2) 1)) ≡ false
    pub mounted : (is_tape header && (not u.panel.online || (u.panel.vck && not header.cvc))) ≡ false
    pub unlocked : (writes header && u.panel.locked) ≡ false
    pub executable : not_executable u header packet ≡ false

  pub data Way : Plan → Type 0 where
    -- nothing to do
    idle : u.registers.ssr ≡ true → (u.attention.pending && u.attention.unit_owns) ≡ false → Way (still u (Ok answer.Idle))
    -- an attention with no command waiting, with the release's IE
    attention : u.registers.ssr ≡ true → (u.attention.pending && u.attention.unit_owns) ≡ true
        → Way (ends (attended_to u) u.attention.release_ie 1 0 residual.Nothing)
    -- 1. the header word outside memory: NXM, class 5, no message, no interrupt, the owner kept
    no_header : u.registers.ssr ≡ false → length m < u.registers.pointer + 2 → Way (untold u 5 false)
    -- 2. no ACK while the CPU owns the buffer: class 0, no message
    not_owned : Waits → (u.attention.unit_owns || header.ack) ≡ false → Way (untold owning 0 header.ie)
    -- 3. an attention pending: class 1, the command is lost
    lost : Waits → (u.attention.unit_owns || header.ack) ≡ true → u.attention.pending ≡ true
        → Way (ends (attended_to owning) header.ie 1 0 residual.Nothing)
    -- 5. unknown code or mode: ILC, class 3
    unknown : Begins → (not header.plain || is_illegal (command_of header.code header.mode)) ≡ true
        → Way (ends started header.ie 3 ILC residual.Nothing)
    -- 6. NBA set and not Write Characteristics: class 3
    no_buffer : Begins → (not header.plain || is_illegal (command_of header.code header.mode)) ≡ false
        → (u.registers.nba && not (eqb header.code 4)) ≡ true → Way (ends started header.ie 3 0 residual.Nothing)
    -- 7. one of the packet's eight bytes outside memory: NXM, class 5, whatever the command
    no_words : Begins → (not header.plain || is_illegal (command_of header.code header.mode)) ≡ false
        → (u.registers.nba && not (eqb header.code 4)) ≡ false → length m < u.registers.pointer + packet_bytes
        → Way (ends started header.ie 5 0 residual.Nothing)
    -- 8. pointer bits above A17, or an odd pointer in Write Characteristics: ILA, class 3, the whole count
    bad_pointer : Fetched → (packet.high || (eqb header.code 4 && eqb (packet.pointer % 2) 1)) ≡ true
        → Way (ends started header.ie 3 ILA (whole_count header packet.count))
    -- 9. a tape command off line or with VCK: NEF, class 3
    not_mounted : Fetched → (packet.high || (eqb header.code 4 && eqb (packet.pointer % 2) 1)) ≡ false
        → (is_tape header && (not u.panel.online || (u.panel.vck && not header.cvc))) ≡ true
        → Way (ends started header.ie 3 NEF (whole_count header packet.count))
    -- Write or Format under write lock: NEF and WLE
    locked : Fetched → (packet.high || (eqb header.code 4 && eqb (packet.pointer % 2) 1)) ≡ false
        → (is_tape header && (not u.panel.online || (u.panel.vck && not header.cvc))) ≡ false → (writes header && u.panel.locked) ≡ true
        → Way (ends started header.ie 3 (NEF + WLE) (whole_count header packet.count))
    -- reverse first stage at block 0, or a written length out of range: NEF
    no_execution : Fetched → (packet.high || (eqb header.code 4 && eqb (packet.pointer % 2) 1)) ≡ false
        → (is_tape header && (not u.panel.online || (u.panel.vck && not header.cvc))) ≡ false → (writes header && u.panel.locked) ≡ false
        → not_executable u header packet ≡ true → Way (ends started header.ie 3 NEF (whole_count header packet.count))
    -- 10. data extent past the end of memory: NXM, class 5, the whole count
    no_extent : Runs → (has_extent header && ltb (length m) (packet.pointer + packet.count)) ≡ true
        → Way (ends started header.ie 5 0 (whole_count header packet.count))
    -- and otherwise the command is carried out, from the state that steps 2 and 4 leave
    carried : Runs → (has_extent header && ltb (length m) (packet.pointer + packet.count)) ≡ false
        → Way (carried_out started m s header packet (command_of header.code header.mode))
