-- Refusals 1 to 4 of a step and a step back. (01, the table)
use Rattle.std.specs.Prelude.{Bool, Result, Ok, Err, ⊤, ◌||◌, not, ℕ, eqb, ltb}
use Rattle.lists.specs.Pick.{pick}
use Rattle.state.specs.Checks.{refusal_of, state_wrong}
use Rattle.state.specs.Refusals.{behind}
use Rattle.state.specs.declared.refusal.Refusal.{Refusal}
use Rattle.state.specs.declared.refusal.Refusal.TheVariants as refusal
use Rattle.worlds.specs.declared.Session.{Session}

-- "Journal: 0 to 16,777,216 bytes."
abbrev pub journal_limit : ℕ
journal_limit = 16777216

-- "1 .. or used journal or a mounted length out of range"
unfoldable pub session_wrong : Session → Bool
session_wrong s = state_wrong s.unit || (ltb s.journal s.used || ltb journal_limit s.journal)

-- the first of 1 to 4 that holds, for lengths in bytes; "4 journal too long, or not of the mount's length"
unfoldable pub checked : Session → ℕ → ℕ → ℕ → Result ⊤ Refusal
checked s memory reel journal =
    pick (session_wrong s) (Err refusal.State)
    (behind (refusal_of s.unit memory reel) (λ r. Err r)
    (pick (not (eqb journal s.journal)) (Err refusal.Journal) (Ok tt)))
