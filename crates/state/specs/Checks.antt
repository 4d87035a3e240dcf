-- Refusals 1, 2 and 3 (01, the table): which states, and which lengths of memory and reel.
use Rattle.std.specs.Prelude.{Bool, Result, Ok, Err, ⊤, ◌||◌, ◌&&◌, not, ℕ, ◌+◌, ◌*◌, ◌%◌, eqb, leb, ltb}
use Rattle.lists.specs.Pick.{pick}
use Rattle.tape.specs.Numbers.{block_bytes, capacity_limit}
use Rattle.signals.specs.Message.{message_bytes}
use Rattle.signals.specs.Numbers.{pointer_limit}
use Rattle.state.specs.declared.Unit.{Unit}
use Rattle.state.specs.declared.Tape.{Tape}
use Rattle.state.specs.declared.Registers.{Registers}
use Rattle.state.specs.declared.Characteristics.{Characteristics}
use Rattle.state.specs.declared.Lengths.{Lengths}
use Rattle.state.specs.declared.refusal.Refusal.{Refusal}
use Rattle.state.specs.declared.refusal.Refusal.TheVariants as refusal

-- "Memory: even length, 2 to 262,144 bytes."
abbrev pub memory_limit : ℕ
memory_limit = 262144

abbrev pub memory_right : ℕ → Bool
memory_right n = (eqb (n % 2) 0 && leb 2 n) && leb n memory_limit

-- "Reel slice: 1 to 65,536 blocks"
abbrev pub blocks_right : ℕ → Bool
blocks_right b = leb 1 b && leb b capacity_limit

abbrev pub last_class : ℕ
last_class = 6

-- "position beyond the recorded end, end beyond capacity"
unfoldable pub tape_wrong : Tape → ℕ → Bool
tape_wrong t blocks = ltb t.end t.position || ltb blocks t.end

-- "pointer past 18 bits, class past 6"
unfoldable pub registers_wrong : Registers → Bool
registers_wrong g = leb pointer_limit g.pointer || ltb last_class g.class

-- "message buffer .. odd, under 14 bytes or outside the mount's memory"
unfoldable pub buffer_wrong : Characteristics → ℕ → Bool
buffer_wrong c memory =
    (eqb (c.address % 2) 1 || ltb c.length message_bytes) || ltb memory (c.address + c.length)

unfoldable pub lengths_wrong : Lengths → Bool
lengths_wrong l = not (memory_right l.memory) || not (blocks_right l.blocks)

-- refusal 1, but for the journal's numbers; "(NBA clear)"
unfoldable pub state_wrong : Unit → Bool
state_wrong u =
    tape_wrong u.tape u.lengths.blocks
    || (registers_wrong u.registers
    || ((not u.registers.nba && buffer_wrong u.characteristics u.lengths.memory) || lengths_wrong u.lengths))

-- the first of refusals 1, 2, 3 that holds, for lengths in bytes
unfoldable pub refusal_of : Unit → ℕ → ℕ → Result ⊤ Refusal
refusal_of u memory reel =
    pick (state_wrong u) (Err refusal.State)
    (pick (not (eqb memory u.lengths.memory)) (Err refusal.Memory)
    (pick (not (eqb reel (block_bytes * u.lengths.blocks))) (Err refusal.Reel) (Ok tt)))
