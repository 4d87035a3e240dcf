-- All that a call can change, in two parts: the core that steps change and steps back bring back, and the ledger of the steps that stand.
use Rattle.std.specs.Prelude.{false, Result, Ok, Err, ◌≡◌, List, ℕ}
use Rattle.commands.specs.Answers.{is_step}
use Rattle.commands.specs.Answers.{Answer}
use Rattle.state.specs.declared.refusal.Refusal.{Refusal}
use Rattle.commands.specs.declared.plans.Done.TheVariants as answer
use Rattle.unit.specs.Cores.{Core}
use Rattle.entries.specs.Entries.{used_in}
use Rattle.worlds.specs.declared.Session.{Session}
use Rattle.worlds.specs.declared.Stepped.{Stepped}

-- the used journal: how many bytes, of how many at the mount, and which
pub record Ledger : Type 0 where
  pub used : ℕ
  pub length : ℕ
  pub bytes : List ℕ

-- of the transport with this number
pub record World : Type 0 where
  pub number : ℕ
  pub core : Core
  pub ledger : Ledger

-- an answer, and the world after it
pub record Answered : Type 0 where
  pub answer : Answer
  pub world : World

abbrev pub answered : Answer → World → Answered
answered a w = record { answer = a; world = w }

-- the world of a call: of the lent journal only the used part. "Journal bytes outside the used part are not promised." (01)
abbrev pub world_of : ℕ → Session → List ℕ → List ℕ → List ℕ → List ℕ → World
world_of k s m r tb j =
    record {
      number = k;
      core = record { unit = s.unit; objects = s.objects; memory = m; reel = r; table = tb };
      ledger = record { used = s.used; length = s.journal; bytes = used_in s.used j };
    }

-- the numbers of a world that a call is handed and hands back
abbrev pub session_of : World → Session
session_of w = record { unit = w.core.unit; objects = w.core.objects; used = w.ledger.used; journal = w.ledger.length }

-- an answer, and the session that a call hands back
pub record Outcome : Type 0 where
  pub answer : Answer
  pub session : Session

-- "Each returns its number and changes nothing": of a call that is handed the session s, and is refused, or a step that interrupts nothing
abbrev pub answer_of : Result Session Refusal → Answer
answer_of (Ok x) = Ok (answer.Step false)
answer_of (Err r) = Err r

abbrev pub session_left : Session → Result Session Refusal → Session
session_left s (Ok x) = x
session_left s (Err r) = s

abbrev pub outcome_of : Session → Result Session Refusal → Outcome
outcome_of s x = record { answer = answer_of x; session = session_left s x }

-- and of an advance, which tells what it did
abbrev pub answer_told : Result Stepped Refusal → Answer
answer_told (Ok x) = Ok x.done
answer_told (Err r) = Err r

abbrev pub session_told : Session → Result Stepped Refusal → Session
session_told s (Ok x) = x.session
session_told s (Err r) = s

abbrev pub outcome_told : Session → Result Stepped Refusal → Outcome
outcome_told s x = record { answer = answer_told x; session = session_told s x }

-- what a call that was lent the journal j hands back and leaves in the slices is the definition's answer and world; and where it takes no step,
-- it leaves every byte of the journal, the unused ones too
pub record Leaves (x : Answered) (j : List ℕ) (o : Outcome) (m r tb j' : List ℕ) : Type 0 where
  pub answer : o.answer ≡ x.answer
  pub world : world_of x.world.number o.session m r tb j' ≡ x.world
  pub unless_step : is_step x.answer ≡ false → j' ≡ j
