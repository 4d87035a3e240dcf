-- What a call knows that refusals 1 to 4 let pass.
use Rattle.std.specs.Prelude.{Ok, ◌≡◌, ℕ, ◌*◌, ◌≤◌, length}
use Rattle.tape.specs.Numbers.{block_bytes}
use Rattle.state.specs.Legal.{Legal}
use Rattle.entries.specs.Entries.{transports}
use Rattle.worlds.specs.Refusals.{checked, journal_limit}
use Rattle.worlds.specs.Worlds.{World, session_of}
use Rattle.worlds.specs.declared.Session.{Session}

pub record Passed (s : Session) (memory reel journal : ℕ) : Type 0 where
  pub legal : Legal s.unit
  pub memory_is : memory ≡ s.unit.lengths.memory
  pub reel_is : reel ≡ block_bytes * s.unit.lengths.blocks
  pub journal_is : journal ≡ s.journal
  pub used : s.used ≤ s.journal
  pub limit : s.journal ≤ journal_limit

-- a world that refusals 1 to 4 let pass, for a journal of n bytes; its ledger's bytes are as many as are used, and an entry can name it
pub record Fit (n : ℕ) (w : World) : Type 0 where
  pub sound : checked (session_of w) (length w.core.memory) (length w.core.reel) n ≡ Ok tt
  pub whole : length w.ledger.bytes ≡ w.ledger.used
  pub named : w.number ≤ transports
