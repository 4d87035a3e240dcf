-- The calls over a row as the steps of a session: "demand 3 speaks of the shared history" (02, [9]). A session's core is the rig: every transport with its reel and
-- table, and the memory that they share.
use Rattle.std.specs.Prelude.{Ok}
use Rattle.std.specs.Prelude.{List, [], ◌∷◌, ◌++◌, ℕ, zero, suc, ◌+◌, eqb}
use Rattle.lists.specs.Pick.{pick}
use Rattle.commands.specs.Answers.{Answer}
use Rattle.commands.specs.declared.plans.Done.TheVariants as answer
use Rattle.touched.specs.Touches.{memory_back, none, saved_bytes}
use Rattle.unit.specs.Asks.{Ask, Asked, advance, host_store, operate, write_tsdb, write_tssr}
use Rattle.unit.specs.Cores.{Core}
use Rattle.unit.specs.Steps.{Step, step_of}
use Rattle.unit.specs.declared.registers.Register.{Register}
use Rattle.entries.specs.Entries.{entry_bytes, entry_length, transports}
use Rattle.entries.specs.declared.Entry.{Entry}
use Rattle.worlds.specs.Calls.{entry_for, undone}
use Rattle.worlds.specs.Coupled.{Coupled, CoupledAnswer, Rig, back_over, core_of, core_of_none, host_at, register_at, step_at, told, with_core, with_memory}
use Rattle.worlds.specs.Worlds.{Ledger}
use Rattle.sessions.specs.Calling.{Said, read_kind, step_kind}
use Rattle.sessions.specs.Session.{Kind, Machine, Moment}

-- what can be asked of a transport: "Host stores belong to no unit"
abbrev pub OfUnit : Ask → Type 0
OfUnit (write_tsdb word) = Asked (write_tsdb word)
OfUnit write_tssr = Asked write_tssr
OfUnit (operate a) = Asked (operate a)
OfUnit (host_store place bytes) = ⊥
OfUnit advance = Asked advance

-- a call: a step of transport k, a host store, or a register of transport k
pub data Call : Type 0 where
  step : (k : ℕ) (a : Ask) → OfUnit a → Call
  store : (place : ℕ) (bytes : List ℕ) → Call
  read_register : (k : ℕ) → Register → Call

-- the number that a call is handed; a host store has none
pub data Numbered : Call → ℕ → Type 0 where
  a_step : {k : ℕ} {a : Ask} {h : OfUnit a} → Numbered (step k a h) k
  a_register : {k : ℕ} {r : Register} → Numbered (read_register k r) k

-- what the call does and answers, with a journal of n bytes
unfoldable pub on_call : ℕ → Call → Coupled → CoupledAnswer
on_call n (step k a h) w = step_at w n k a
on_call n (store place bytes) w = host_at w n place bytes
on_call n (read_register k r) w = told (register_at w k r).answer w

unfoldable pub word_of : Call → Coupled → ℕ
word_of (step k a h) w = 0
word_of (store place bytes) w = 0
word_of (read_register k r) w = (register_at w k r).word

unfoldable pub call_kind : Call → Answer → Kind
call_kind (step k b h) a = step_kind a
call_kind (store place bytes) a = step_kind a
call_kind (read_register k r) a = read_kind a

-- the core that a call is about: its transport's, or none's
unfoldable pub core_for : Call → Rig → Core
core_for (step k a h) g = core_of k g
core_for (store place bytes) g = core_of_none g
core_for (read_register k r) g = core_of k g

-- what it does to that core, if it takes a step
unfoldable pub doing : Call → Rig → Step
doing (step k a h) g = step_of a (core_of k g)
doing (store place bytes) g = step_of (host_store place bytes) (core_of_none g)
doing (read_register k r) g = record { answer = (Ok answer.Idle); touched = none; after = core_of k g }

-- and to the rig: every other transport stays as it is
unfoldable pub next_rig : Call → Rig → Rig
next_rig (step k a h) g = with_core k (step_of a (core_of k g)).after g
next_rig (store place bytes) g = with_memory (step_of (host_store place bytes) (core_of_none g)).after.memory g
next_rig (read_register k r) g = g

-- whom its entry names
unfoldable pub name_of : Call → ℕ
name_of (step k a h) = k
name_of (store place bytes) = transports
name_of (read_register k r) = k

abbrev pub entry_at : Call → Rig → Entry
entry_at c g = entry_for (name_of c) (core_for c g) (doing c g)

-- an entry that stands in the journal, the bytes it saved, and its own bytes there
pub record Noted : Type 0 where
  pub entry : Entry
  pub saved : List ℕ
  pub bytes : List ℕ

unfoldable pub noted_at : Call → Rig → Noted
noted_at c g =
    record {
      entry = entry_at c g;
      saved = saved_bytes (doing c g).touched (core_for c g).memory (core_for c g).reel (core_for c g).table;
      bytes = entry_bytes (entry_at c g) (core_for c g).memory (core_for c g).reel (core_for c g).table;
    }

-- the used journal that holds these entries, newest first, and how long it is
unfoldable pub journal_of : List Noted → List ℕ
journal_of [] = []
journal_of (x ∷ xs) = journal_of xs ++ x.bytes

unfoldable pub length_of : List Noted → ℕ
length_of [] = 0
length_of (x ∷ xs) = length_of xs + entry_length x.entry

abbrev pub ledger_of : ℕ → List Noted → Ledger
ledger_of n xs = record { used = length_of xs; length = n; bytes = journal_of xs }

-- a moment of a session
abbrev pub Here : Type 0
Here = Moment Rig Noted

-- the coupled world of a moment: its rig, and the ledger of the entries that stand, which is the journal and nothing else
abbrev pub coupled_from : ℕ → Here → Coupled
coupled_from n s = record { rig = s.core; ledger = ledger_of n s.entries }

-- a rig with an entry that stands brought back: the record, reel and table of the transport that it names, and memory; or memory alone
unfoldable pub brought_back : Noted → Rig → Rig
brought_back x g =
    pick (eqb x.entry.transport transports) (with_memory (memory_back x.entry.touched x.saved g.memory) g)
    (with_core x.entry.transport (undone x.entry x.saved (core_of x.entry.transport g)) g)

-- the coupled world after k calls of step back
unfoldable pub back_calls : ℕ → ℕ → Coupled → Coupled
back_calls n zero w = w
back_calls n (suc k) w = back_calls n k (back_over w n).coupled

abbrev pub kind_now : ℕ → Call → Here → Kind
kind_now n c s = call_kind c (on_call n c (coupled_from n s)).answer

-- the moment after a step
abbrev pub step_to : Call → Here → Here
step_to c s = record { core = next_rig c s.core; entries = noted_at c s.core ∷ s.entries }

-- the calls with a journal of n bytes, as a session's machine
abbrev pub calls : ℕ → Machine
calls n =
    record {
      C = Rig;
      E = Noted;
      K = Call;
      A = Said;
      kind = kind_now n;
      next = next_rig;
      entry = noted_at;
      answer = λ c s. record { answer = (on_call n c (coupled_from n s)).answer; word = word_of c (coupled_from n s) };
      undo = brought_back;
    }
