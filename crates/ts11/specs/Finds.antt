-- What an exported look-up gives: the journal's answer as a number, and the place that was found.
use Rattle.std.specs.Prelude.{Err, is_some, Bool, List, ◌≡◌, ℕ}
use Rattle.std.specs.Option.{unwrap_or}
use Rattle.lists.specs.Pick.{pick}
use Rattle.state.specs.declared.refusal.Refusal.TheVariants as refusal
use Rattle.commands.specs.Answers.{number_of}
use Rattle.worlds.specs.Calls.{Finding, block_on, file_on, finding_of}
use Rattle.stateblock.specs.Block.{is_block, session_in}

-- bytes that are no session's block are refused with 1
abbrev pub no_finding : Finding
no_finding = finding_of (Err refusal.State)

unfoldable pub file_given : List ℕ → List ℕ → ℕ → Finding
file_given b tb f = pick (is_block b) (file_on (session_in b) tb f) no_finding

unfoldable pub block_given : List ℕ → List ℕ → ℕ → Finding
block_given b tb k = pick (is_block b) (block_on (session_in b) tb k) no_finding

-- what was found as a flag and a place, 0 where nothing was
pub record Finds (x : Finding) (number : ℕ) (f : Bool) (i : ℕ) : Type 0 where
  pub answer : number ≡ number_of x.answer
  pub found : f ≡ is_some x.found
  pub place : i ≡ unwrap_or x.found 0
