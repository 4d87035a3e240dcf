-- What a call leaves of the journal j: the used part is the definition's, and without a new entry every byte stays.
use Rattle.std.specs.Prelude.{false, List, ◌≡◌, ℕ}
use Rattle.entries.specs.Entries.{used_in}
use Rattle.lines.specs.declared.Call.{Call}
use Rattle.worlds.specs.Worlds.{Answered}
use Rattle.replayer.specs.Calls.{entered}

pub record JournalLeft (c : Call) (x : Answered) (j j' : List ℕ) : Type 0 where
  pub used : used_in x.world.ledger.used j' ≡ x.world.ledger.bytes
  pub unless_entered : entered c x.answer ≡ false → j' ≡ j
