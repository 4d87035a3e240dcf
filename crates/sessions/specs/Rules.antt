-- Demand 2, whole: "Registers, message packet, moved bytes, termination class, reel and position are those of document 01, reading forward and in
-- reverse and writing. Done plus residual equals the count asked. Memory outside the named bytes stays." Request [2] changes step 7: "Demand 2 then means
-- this rule." What holds of an advance that is a step,
-- between the state, memory, reel and table ([8]) that the call was handed and those that it left. No well formed reel is asked, but where objects are spoken of.
use Rattle.std.specs.Prelude.{Bool, true, false, List, ◌⊎◌, ◌≡◌, ℕ, ◌+◌, ◌*◌, ◌<◌, ◌≤◌, eqb, ltb, get_or, Ok}
use Rattle.tape.specs.Numbers.{block_bytes}
use Rattle.tape.specs.Objects.{Holds, Object, blocks_in}
use Rattle.index.specs.Table.{place_length}
use Rattle.signals.specs.declared.packet.Header.{Header}
use Rattle.signals.specs.declared.packet.Packet.{Packet}
use Rattle.moves.specs.Between.{Bound}
use Rattle.moves.specs.Seeking.{sought}
use Rattle.moves.specs.declared.seeking.Sought.TheVariants as sought-as
use Rattle.motions.specs.Parts.{laid_blocks}
use Rattle.commands.specs.declared.plans.Done.TheVariants as answer
use Rattle.commands.specs.declared.plans.Plan.{Plan}
use Rattle.storing.specs.Outside.{OffData, OffMessage}
use Rattle.storing.specs.Stored.{memory_after, reel_after}
use Rattle.demands.specs.Commands.{Carried}
use Rattle.demands.specs.Done.{ReadDone, RunsOn, SpaceDone}
use Rattle.demands.specs.Saying.{SpaceSays, SpacedNone}
use Rattle.demands.specs.Ways.{Fetched, Way, header, packet, started}
use Rattle.kept.specs.Leaving.{WriteRuns, WriteTold, Wrote, object_for}
use Rattle.kept.specs.NoRoom.{Found, NoRoom, NoneFound}
use Rattle.unit.specs.Cores.{Core}
use Rattle.unit.specs.Steps.{cut_of, objects_after, table_after}
use Rattle.unit.specs.Touching.{laid_places}

-- the header and the packet of the command that waits, and the object that it lays if it is a Write or Format
abbrev pub header_in : Core → Header
header_in c = header c.unit c.memory c.reel

abbrev pub packet_in : Core → Packet
packet_in c = packet c.unit c.memory c.reel

abbrev pub object_in : Core → Object
object_in c = object_for c.memory (header_in c) (packet_in c)

-- whether the reel is too short for what such a command lays: the object where the tape stands, or for a retry a gap and the object where its
-- space in reverse over gaps and one record or mark stopped
pub data Short (c : Core) (short : Bool) : Type 0 where
  at_once : eqb (header_in c).mode 2 ≡ false → ltb c.unit.lengths.blocks (c.unit.tape.position + blocks_in (object_in c)) ≡ short → Short c short
  again : {at : ℕ} → (header_in c).mode ≡ 2 → Found at (sought c.reel true c.unit.tape.position c.unit.tape.end)
      → ltb c.unit.lengths.blocks (at + (blocks_in (object_in c) + 1)) ≡ short → Short c short

-- from c to c', and whether it interrupts
module _ (c : Core) (interrupts : Bool) (c' : Core) where
  -- the step is what the plan q says, and nothing else: memory off q's data and message, the reel off the blocks that q lays, and the table off their places, stay
  pub record Follows (q : Plan) : Type 0 where
    pub answer : q.answer ≡ Ok (answer.Step interrupts)
    pub state : c'.unit ≡ q.unit
    pub memory : c'.memory ≡ memory_after q c.memory c.reel
    pub reel : c'.reel ≡ reel_after q c.memory c.reel
    pub objects : c'.objects ≡ objects_after q.laid (cut_of c q.laid) c.objects
    pub places : c'.table ≡ table_after c q.laid
    pub memory_stays : (j : ℕ) → OffData q.moved j → OffMessage q j → get_or c'.memory j 0 ≡ get_or c.memory j 0
    pub reel_stays : (j : ℕ) → (j < block_bytes * q.laid.at) ⊎ (block_bytes * (q.laid.at + laid_blocks q.laid) ≤ j) → get_or c'.reel j 0 ≡ get_or c.reel j 0
    pub table_stays : (j : ℕ) → (j < place_length * (cut_of c q.laid).place) ⊎ (place_length * ((cut_of c q.laid).place + laid_places q.laid) ≤ j)
        → get_or c'.table j 0 ≡ get_or c.table j 0

  -- the table and its count are as they were
  abbrev pub Unfilled : Type 0
  Unfilled = (c'.table ≡ c.table) × (c'.objects ≡ c.objects)

  pub record Obeys : Type 0 where
    -- "Advance, in order": the case that it was, under that case's condition
    pub plan : Plan
    pub way : Way c.unit c.memory c.reel plan
    pub follows : Follows plan
    -- and as what each code and mode of the table is carried out, from the state that steps 2 and 4 leave
    pub table : Carried (started c.unit c.memory c.reel) c.memory c.reel (header_in c) (packet_in c)
    -- Read, once its packet was fetched: the bytes stored, why it ended, and the residual word in the message
    pub read : Fetched c.unit c.memory c.reel → (header_in c).code ≡ 1 → ReadDone c.unit c.memory c.reel c'.unit c'.memory
    -- Position modes 0 to 3, likewise: the objects passed and the residual word; and where it ran, why it stopped
    pub space : Fetched c.unit c.memory c.reel → (header_in c).code ≡ 8 → (header_in c).mode < 4 → SpaceDone c.unit c.memory c.reel c'.unit c'.memory
    pub stop : RunsOn c.unit c.memory c.reel → (header_in c).code ≡ 8 → (header_in c).mode < 4 → eqb (packet_in c).count 0 ≡ false
        → SpaceSays c.unit c.memory c.reel c'.unit c'.memory
    pub none_asked : RunsOn c.unit c.memory c.reel → (header_in c).code ≡ 8 → (header_in c).mode < 4 → (packet_in c).count ≡ 0
        → SpacedNone c.unit c.memory c.reel c'.unit c'.memory
    -- Write and Format that ran, with room on the reel: what the reel holds then, and what the message says
    pub wrote : WriteRuns c.unit c.memory c.reel → Short c false → {os : List Object} → Holds c.reel c.unit.tape.end os → Bound os c.unit.tape.position
        → Wrote c.unit c.memory c.reel os c'.unit c'.reel
    pub told : WriteRuns c.unit c.memory c.reel → Short c false → WriteTold (object_in c) c'.unit c'.memory
    -- with none; and a retry that found nothing to go over
    pub no_room : WriteRuns c.unit c.memory c.reel → Short c true → NoRoom c.unit.tape c.reel c'.unit c'.memory c'.reel × Unfilled
    pub none_found : WriteRuns c.unit c.memory c.reel → (header_in c).mode ≡ 2 → {at : ℕ} → sought c.reel true c.unit.tape.position c.unit.tape.end ≡ Ok (sought-as.Nothing at)
        → NoneFound c.unit.tape c.reel c'.unit c'.memory c'.reel × Unfilled
    -- nothing else writes
    pub unwritten : (WriteRuns c.unit c.memory c.reel → ⊥) → (c'.reel ≡ c.reel) × (c'.unit.tape.end ≡ c.unit.tape.end) × Unfilled
