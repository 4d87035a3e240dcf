-- All that steps change and steps back bring back: the unit's state with the used places of the table, memory, reel and table.
use Rattle.std.specs.Prelude.{List, ◌≡◌, ℕ, ◌*◌, length}
use Rattle.tape.specs.Numbers.{block_bytes}
use Rattle.state.specs.Legal.{Legal}
use Rattle.state.specs.declared.Unit.{Unit}

pub record Core : Type 0 where
  pub unit : Unit
  pub objects : ℕ
  pub memory : List ℕ
  pub reel : List ℕ
  pub table : List ℕ

-- refusals 1 to 3 let it pass
pub record Admitted (c : Core) : Type 0 where
  pub legal : Legal c.unit
  pub memory_is : length c.memory ≡ c.unit.lengths.memory
  pub reel_is : length c.reel ≡ block_bytes * c.unit.lengths.blocks
