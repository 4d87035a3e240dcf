-- Two steps of a unit that differ in nothing but the memory around them. (02, [9]: "its registers, messages, reel and position are too"; the table by [8])
use Rattle.std.specs.Prelude.{◌≡◌, ℕ, get_or, length}
use Rattle.unit.specs.Asks.{Ask}
use Rattle.unit.specs.Cores.{Core}
use Rattle.unit.specs.Steps.{step_of}
use Rattle.unit.specs.Stores.{bytes_of}

-- the same state, reel and table, whatever the memories
pub record SameButMemory (c c' : Core) : Type 0 where
  pub unit : c.unit ≡ c'.unit
  pub objects : c.objects ≡ c'.objects
  pub reel : c.reel ≡ c'.reel
  pub table : c.table ≡ c'.table
  pub long : length c.memory ≡ length c'.memory

-- the ask a comes to the same from c and from c': answer, places touched, the bytes stored there (message, data, blocks, places of the table), and the core after it but for
-- memory; and where the two memories were the same they are the same after it. (Where a byte is stored they are too: the law `stored_alike`.)
pub record StepsAlike (a : Ask) (c c' : Core) : Type 0 where
  pub answer : (step_of a c).answer ≡ (step_of a c').answer
  pub touched : (step_of a c).touched ≡ (step_of a c').touched
  pub bytes : bytes_of a c ≡ bytes_of a c'
  pub after : SameButMemory (step_of a c).after (step_of a c').after
  pub memory : (j : ℕ) → get_or c.memory j 0 ≡ get_or c'.memory j 0 → get_or (step_of a c).after.memory j 0 ≡ get_or (step_of a c').after.memory j 0
