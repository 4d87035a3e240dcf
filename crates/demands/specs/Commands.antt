-- Every command and mode of the table (01, "Commands"), by its numbers: what it is, carried out from the state u.
use Rattle.std.specs.Prelude.{true, false, List, ◌≡◌, ℕ}
use Rattle.signals.specs.Codes.{command_of}
use Rattle.signals.specs.declared.packet.Header.{Header}
use Rattle.signals.specs.declared.packet.Packet.{Packet}
use Rattle.state.specs.declared.Unit.{Unit}
use Rattle.motions.specs.Parts.{resting, standing}
use Rattle.motions.specs.Reads.{read_one, reread}
use Rattle.motions.specs.Writes.{retried, written_at}
use Rattle.motions.specs.declared.parts.ObjectKind.TheVariants as kind
use Rattle.commands.specs.Ends.{motion_plan, told}
use Rattle.moves.specs.Counting.{marks, records}
use Rattle.commands.specs.Commands.{asked, carried_out, characterized, laid_here, plain_end, positioning, released, unloaded}
use Rattle.commands.specs.declared.plans.Plan.{Plan}

module _ (u : Unit) (m s : List ℕ) (h : Header) (p : Packet) where
  -- code and mode, carried out
  abbrev pub coded : ℕ → ℕ → Plan
  coded code mode = carried_out u m s h p (command_of code mode)

  pub record Carried : Type 0 where
    -- "Read 1 / 0 next, 1 previous, 2 reread previous, 3 reread next"
    pub read_next : coded 1 0 ≡ motion_plan u h.ie (read_one s u.tape (asked h p) false)
    pub read_previous : coded 1 1 ≡ motion_plan u h.ie (read_one s u.tape (asked h p) true)
    pub reread_previous : coded 1 2 ≡ motion_plan u h.ie (reread s u.tape (asked h p) true h.opp)
    pub reread_next : coded 1 3 ≡ motion_plan u h.ie (reread s u.tape (asked h p) false h.opp)
    -- "Write Characteristics 4 / 0"
    pub write_characteristics : coded 4 0 ≡ characterized u m p h.ie
    -- "Write 5 / 0, 2 retry"
    pub write_next : coded 5 0
        ≡ motion_plan u h.ie (written_at u.tape u.lengths.blocks (laid_here u.tape kind.Record p.pointer p.count h.swb) false)
    pub write_retry : coded 5 2
        ≡ motion_plan u h.ie (retried s u.tape u.lengths.blocks (laid_here u.tape kind.Record p.pointer p.count h.swb) false)
    -- "Position 8 / 0 records forward, 1 reverse, 2 marks forward, 3 reverse, 4 rewind"
    pub records_forward : coded 8 0 ≡ motion_plan u h.ie (positioning s u.tape u.characteristics (records p.count) false)
    pub records_reverse : coded 8 1 ≡ motion_plan u h.ie (positioning s u.tape u.characteristics (records p.count) true)
    pub marks_forward : coded 8 2 ≡ motion_plan u h.ie (positioning s u.tape u.characteristics (marks p.count) false)
    pub marks_reverse : coded 8 3 ≡ motion_plan u h.ie (positioning s u.tape u.characteristics (marks p.count) true)
    pub rewind : coded 8 4 ≡ told u h.ie (resting plain_end (standing 0 u.tape.end))
    -- "Format 9 / 0 mark, 1 erase, 2 mark retry"
    pub write_mark : coded 9 0 ≡ motion_plan u h.ie (written_at u.tape u.lengths.blocks (laid_here u.tape kind.Mark 0 0 false) true)
    pub erase : coded 9 1 ≡ motion_plan u h.ie (written_at u.tape u.lengths.blocks (laid_here u.tape kind.Gap 0 0 false) false)
    pub mark_retry : coded 9 2 ≡ motion_plan u h.ie (retried s u.tape u.lengths.blocks (laid_here u.tape kind.Mark 0 0 false) true)
    -- "Control 10 / 0 release, 1 rewind and unload, 2 clean"; "Initialize 11/0 (house: no action). Get Status 15/0."
    pub release : coded 10 0 ≡ released u h.ie
    pub unload : coded 10 1 ≡ unloaded u h.ie
    pub clean : coded 10 2 ≡ told u h.ie (resting plain_end u.tape)
    pub initialize : coded 11 0 ≡ told u h.ie (resting plain_end u.tape)
    pub get_status : coded 15 0 ≡ told u h.ie (resting plain_end u.tape)
