-- The journal's calls as the steps of a session. (01, "Calls")
use Rattle.std.specs.Prelude.{Ok, Err}
use Rattle.std.specs.Prelude.{List, [], ◌∷◌, ◌++◌, ◌≡◌, false, ℕ, zero, suc, ◌+◌}
use Rattle.commands.specs.Answers.{Answer}
use Rattle.commands.specs.declared.plans.Done.TheVariants as answer
use Rattle.touched.specs.Touches.{none, saved_bytes}
use Rattle.unit.specs.Asks.{Ask, Asked}
use Rattle.unit.specs.Cores.{Core}
use Rattle.unit.specs.Steps.{Step, step_of}
use Rattle.unit.specs.declared.registers.Register.{Register}
use Rattle.entries.specs.Entries.{entry_bytes, entry_length}
use Rattle.entries.specs.declared.Entry.{Entry}
use Rattle.worlds.specs.Worlds.{Answered, Ledger, World, answered, session_of}
use Rattle.worlds.specs.Calls.{back_on, entry_for, absent_place, noted, register_on, step_on, too_full, undone}
use Rattle.sessions.specs.Session.{Kind, Machine, Moment, looked, refused, stepped}

-- a call of a session
pub data Call : Type 0 where
  step : (a : Ask) → Asked a → Call
  read_register : Register → Call

-- what the call does and answers, with a journal of n bytes
unfoldable pub on_call : ℕ → Call → World → Answered
on_call n (step a h) w = step_on w n a
on_call n (read_register r) w = answered (register_on (session_of w) r).answer w

-- an answer, and the word that a register reads
pub record Said : Type 0 where
  pub answer : Answer
  pub word : ℕ

unfoldable pub word_of : Call → World → ℕ
word_of (step a h) w = 0
word_of (read_register r) w = (register_on (session_of w) r).word

-- "Done" takes a step, "Idle" none; reading a register "adds none"
unfoldable pub step_kind : Answer → Kind
step_kind (Ok (answer.Step i)) = stepped
step_kind (Ok answer.Idle) = looked
step_kind (Err k) = refused

unfoldable pub read_kind : Answer → Kind
read_kind (Ok (answer.Step i)) = looked
read_kind (Ok answer.Idle) = looked
read_kind (Err k) = refused

unfoldable pub call_kind : Call → Answer → Kind
call_kind (step b h) a = step_kind a
call_kind (read_register r) a = read_kind a

-- what a call does to the core, if it takes a step
unfoldable pub doing : Call → Core → Step
doing (step a h) c = step_of a c
doing (read_register r) c = record { answer = (Ok answer.Idle); touched = none; after = c }

-- its entry, as one of the transport with this number
abbrev pub entry_at : ℕ → Call → Core → Entry
entry_at i k c = entry_for i c (doing k c)

-- a step x from w, taken
abbrev pub taken_to : World → Step → World
taken_to w x = record { number = w.number; core = x.after; ledger = noted w.ledger (entry_for w.number w.core x) w.core }

-- the step took w to next, the table was large enough, and its entry had room
pub record Took (w next : World) (x : Step) : Type 0 where
  pub is : next ≡ taken_to w x
  pub places : absent_place w.core x ≡ false
  pub room : too_full w.ledger (entry_for w.number w.core x) ≡ false

-- a call that took no step left the world as it was: refusals, an idle advance and a reading
abbrev pub Left : World → Answered → Type 0
Left w x = (step_kind x.answer ≡ stepped → ⊥) → x.world ≡ w

-- an entry that stands in the journal, the bytes it saved, and its own bytes there
pub record Noted : Type 0 where
  pub entry : Entry
  pub saved : List ℕ
  pub bytes : List ℕ

unfoldable pub noted_at : Call → Core → Noted
noted_at k c =
    record {
      entry = entry_at 0 k c;
      saved = saved_bytes (doing k c).touched c.memory c.reel c.table;
      bytes = entry_bytes (entry_at 0 k c) c.memory c.reel c.table;
    }

-- the used journal that holds these entries, newest first, and how long it is
unfoldable pub journal_of : List Noted → List ℕ
journal_of [] = []
journal_of (k ∷ ks) = journal_of ks ++ k.bytes

unfoldable pub length_of : List Noted → ℕ
length_of [] = 0
length_of (k ∷ ks) = length_of ks + entry_length k.entry

-- the ledger of these entries, in a journal of n bytes
abbrev pub ledger_of : ℕ → List Noted → Ledger
ledger_of n ks = record { used = length_of ks; length = n; bytes = journal_of ks }

-- a moment of a session of calls
abbrev pub Here : Type 0
Here = Moment Core Noted

-- the world of a moment: its core, and the ledger of the entries that stand, which is the journal and nothing else. A single unit is transport 0.
abbrev pub world_from : ℕ → Here → World
world_from n s = record { number = 0; core = s.core; ledger = ledger_of n s.entries }

-- a core with an entry that stands brought back
abbrev pub brought_back : Noted → Core → Core
brought_back k c = undone k.entry k.saved c

-- the world after k calls of step back
unfoldable pub back_calls : ℕ → ℕ → World → World
back_calls n zero w = w
back_calls n (suc k) w = back_calls n k (back_on w n).world

-- whether a call takes a step at a moment, looks, or is refused
abbrev pub kind_now : ℕ → Call → Here → Kind
kind_now n c s = call_kind c (on_call n c (world_from n s)).answer

-- the moment after a step
abbrev pub step_to : Call → Here → Here
step_to c s = record { core = (doing c s.core).after; entries = noted_at c s.core ∷ s.entries }

-- the calls with a journal of n bytes, as a session's machine
abbrev pub calls : ℕ → Machine
calls n =
    record {
      C = Core;
      E = Noted;
      K = Call;
      A = Said;
      kind = kind_now n;
      next = λ c d. (doing c d).after;
      entry = noted_at;
      answer = λ c s. record { answer = (on_call n c (world_from n s)).answer; word = word_of c (world_from n s) };
      undo = brought_back;
    }
