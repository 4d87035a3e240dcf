-- A state that refusal 1 lets pass, read as facts about its numbers.
use Rattle.std.specs.Prelude.{◌≡◌, false, ℕ, ◌+◌, ◌%◌, ◌<◌, ◌≤◌}
use Rattle.tape.specs.Numbers.{capacity_limit}
use Rattle.signals.specs.Message.{message_bytes}
use Rattle.signals.specs.Numbers.{pointer_limit}
use Rattle.state.specs.Checks.{last_class, memory_limit}
use Rattle.state.specs.declared.Unit.{Unit}
use Rattle.state.specs.declared.Characteristics.{Characteristics}

-- a message buffer that is even, long enough and inside memory
abbrev pub BufferFits : Characteristics → ℕ → Type 0
BufferFits c memory = (c.address % 2 ≡ 0) × (message_bytes ≤ c.length) × (c.address + c.length ≤ memory)

pub record Legal (u : Unit) : Type 0 where
  pub place : u.tape.position ≤ u.tape.end
  pub capacity : u.tape.end ≤ u.lengths.blocks
  pub pointer : u.registers.pointer < pointer_limit
  pub class : u.registers.class ≤ last_class
  pub buffer : u.registers.nba ≡ false → BufferFits u.characteristics u.lengths.memory
  pub even : u.lengths.memory % 2 ≡ 0
  pub memory_least : 2 ≤ u.lengths.memory
  pub memory_most : u.lengths.memory ≤ memory_limit
  pub blocks_least : 1 ≤ u.lengths.blocks
  pub blocks_most : u.lengths.blocks ≤ capacity_limit
