-- The calls, each as a function of the world. (01, "Calls" and the table of refusals; the table of objects by 02, [8]) A call is lent a journal of n
-- bytes.
use Rattle.std.specs.Prelude.{Option, None, Bool, false, Result, Ok, Err, ⊤, ◌&&◌, not, List, ◌++◌, ℕ, ◌+◌, ◌-◌, eqb, ltb, length}
use Rattle.std.proofs.lemmas.List.Edits.{sets}
use Rattle.lists.specs.Pick.{pick}
use Rattle.tape.specs.Afresh.{objects_in}
use Rattle.tape.specs.Objects.{Object}
use Rattle.index.specs.Finding.{block_found, file_found}
use Rattle.index.specs.Table.{places_in, table_of}
use Rattle.state.specs.Checks.{state_wrong}
use Rattle.state.specs.Refusals.{behind}
use Rattle.state.specs.declared.Unit.{Unit}
use Rattle.state.specs.declared.refusal.Refusal.{Refusal}
use Rattle.state.specs.declared.refusal.Refusal.TheVariants as refusal
use Rattle.commands.specs.Answers.{Answer}
use Rattle.commands.specs.declared.plans.Done.TheVariants as answer
use Rattle.touched.specs.Touches.{memory_back, reel_back, table_back}
use Rattle.unit.specs.Asks.{Ask}
use Rattle.unit.specs.Cores.{Core}
use Rattle.unit.specs.Steps.{Step, step_of, too_small}
use Rattle.unit.specs.Registers.{register_word}
use Rattle.unit.specs.Mounts.{mount_call, mount_refusal}
use Rattle.unit.specs.declared.registers.Register.{Register}
use Rattle.entries.specs.Entries.{entry_bare, entry_bytes, entry_fits, entry_length, newest_entry, saved_in, used_in}
use Rattle.entries.specs.declared.Entry.{Entry}
use Rattle.worlds.specs.Worlds.{Answered, Ledger, Outcome, World, answered, session_of}
use Rattle.worlds.specs.Refusals.{checked, journal_limit, session_wrong}
use Rattle.worlds.specs.declared.Session.{Session}

-- "Each returns its number and changes nothing"
abbrev pub refused_as : Refusal → World → Answered
refused_as r w = answered (Err r) w

-- refusals 1 to 4 first
unfoldable pub guarded : World → ℕ → Answered → Answered
guarded w n x = behind (checked (session_of w) (length w.core.memory) (length w.core.reel) n) (λ r. refused_as r w) x

-- the entry of a step x of transport k, from the core c: "The entry names its unit within the 128 bytes" (02, [9])
unfoldable pub entry_for : ℕ → Core → Step → Entry
entry_for k c x = record { unit = c.unit; objects = c.objects; touched = x.touched; transport = k }

-- "9 free journal less than the entry"
abbrev pub too_full : Ledger → Entry → Bool
too_full l e = ltb (l.length - l.used) (entry_length e)

-- "answered 0 it adds one entry": the ledger with the entry e of a step from the core c
unfoldable pub noted : Ledger → Entry → Core → Ledger
noted l e c =
    record {
      used = l.used + entry_length e;
      length = l.length;
      bytes = l.bytes ++ entry_bytes e c.memory c.reel c.table;
    }

-- "11 when the table is too small for the objects, checked after 8 and before 9": a step from the core c
abbrev pub absent_place : Core → Step → Bool
absent_place c x = too_small (length c.table) c.objects x.after.objects

-- a step for which the table is large enough, and whose entry fits, is taken and noted
unfoldable pub taken_as : World → Step → Answer → Answered
taken_as w x a =
    pick (absent_place w.core x) (refused_as refusal.Table w)
    (pick (too_full w.ledger (entry_for w.number w.core x)) (refused_as refusal.Room w)
    (answered a (record { number = w.number; core = x.after; ledger = noted w.ledger (entry_for w.number w.core x) w.core })))

-- "Advance .. answers Idle .., changes nothing, adds no entry"; 5 and 7 change nothing either
unfoldable pub taken_by : World → Step → Answer → Answered
taken_by w x (Ok (answer.Step i)) = taken_as w x (Ok (answer.Step i))
taken_by w x (Ok answer.Idle) = answered (Ok answer.Idle) w
taken_by w x (Err k) = answered (Err k) w

-- a TSDB or TSSR write, host store, operator act or advance
unfoldable pub step_on : World → ℕ → Ask → Answered
step_on w n a = guarded w n (taken_by w (step_of a w.core) (step_of a w.core).answer)

-- "Reading a register gives 0 and its word, or refusal 1 and word 0; it adds none."
pub record RegisterRead : Type 0 where
  pub answer : Answer
  pub word : ℕ

abbrev pub read_of : Result ℕ Refusal → RegisterRead
read_of (Ok w) = record { answer = Ok (answer.Step false); word = w }
read_of (Err r) = record { answer = Err r; word = 0 }

unfoldable pub register_on : Session → Register → RegisterRead
register_on s r = read_of (pick (session_wrong s) (Err refusal.State) (Ok (register_word s.unit r)))

-- a look-up in a table of so many bytes: refusal 1 as for a register, 11 where the table has fewer places than are used
unfoldable pub find_refusal : Session → ℕ → Result ⊤ Refusal
find_refusal s table = pick (session_wrong s) (Err refusal.State) (pick (ltb (places_in table) s.objects) (Err refusal.Table) (Ok tt))

-- and what it hands back, if it is not refused: what it found
pub record Finding : Type 0 where
  pub answer : Answer
  pub found : Option ℕ

abbrev pub finding_of : Result (Option ℕ) Refusal → Finding
finding_of (Ok x) = record { answer = Ok (answer.Step false); found = x }
finding_of (Err r) = record { answer = Err r; found = None }

-- where file f begins, and the object that holds block b
unfoldable pub file_on : Session → List ℕ → ℕ → Finding
file_on s tb f = finding_of (behind (find_refusal s (length tb)) (λ r. Err r) (Ok (file_found tb s.objects f)))

unfoldable pub block_on : Session → List ℕ → ℕ → Finding
block_on s tb b = finding_of (behind (find_refusal s (length tb)) (λ r. Err r) (Ok (block_found tb s.objects s.unit.tape.end b)))

-- the core with the entry e brought back, whose saved bytes are b
unfoldable pub undone : Entry → List ℕ → Core → Core
undone e b c =
    record {
      unit = e.unit;
      objects = e.objects;
      memory = memory_back e.touched b c.memory;
      reel = reel_back e.touched b c.reel;
      table = table_back e.touched b c.table;
    }

-- "Step back removes the newest": the ledger without its newest entry e
unfoldable pub without : Ledger → Entry → Ledger
without l e =
    record {
      used = l.used - entry_length e;
      length = l.length;
      bytes = used_in (l.used - entry_length e) l.bytes;
    }

-- "8 newest entry's own numbers don't fit journal, memory or reel, or it would restore a state that 1 refuses"
unfoldable pub entry_wrong : World → Entry → Bool
entry_wrong w e =
    not (entry_fits e w.ledger.used w.core.unit.lengths (length w.core.memory) (length w.core.reel) w.core.objects && not (state_wrong e.unit))

-- and 11 behind it: for the objects now, or for those that come back
abbrev pub no_place_back : Core → Entry → Bool
no_place_back c e = too_small (length c.table) c.objects e.objects

unfoldable pub undo_by : World → Entry → Answered
undo_by w e =
    pick (entry_wrong w e) (refused_as refusal.Entry w)
    (pick (no_place_back w.core e) (refused_as refusal.Table w)
    (answered (Ok (answer.Step false))
    (record { number = w.number; core = undone e (saved_in e w.ledger.bytes) w.core; ledger = without w.ledger e })))

unfoldable pub undo_on : World → Answered
undo_on w = undo_by w (newest_entry w.core.objects w.ledger.bytes)

-- "6 step back with no entry"; a used journal too short for an entry is 8's
unfoldable pub back_on : World → ℕ → Answered
back_on w n =
    guarded w n
    (pick (eqb w.ledger.used 0) (refused_as refusal.Empty w)
    (pick (ltb w.ledger.used entry_bare) (refused_as refusal.Entry w) (undo_on w)))

abbrev pub outcome : Answer → Session → Outcome
outcome a s = record { answer = a; session = s }

abbrev pub session : Unit → ℕ → ℕ → ℕ → Session
session u objects used journal = record { unit = u; objects = objects; used = used; journal = journal }

-- "Mount .. empties the journal"; "a refused mount hands that back"; 11 where a table of so many bytes has fewer places than the objects below the end
unfoldable pub mounted_by : Session → ℕ → ℕ → List Object → Result Unit Refusal → Outcome
mounted_by old table journal os (Ok u) =
    pick (ltb (places_in table) (length os)) (outcome (Err refusal.Table) old) (outcome (Ok (answer.Step false)) (session u (length os) 0 journal))
mounted_by old table journal os (Err r) = outcome (Err r) old

-- 2, 3, 4, 7, then 11
unfoldable pub mount_on : Session → ℕ → List ℕ → ℕ → ℕ → ℕ → Bool → Bool → Outcome
mount_on old memory r table journal e online locked =
    behind (mount_refusal memory (length r) e) (λ x. outcome (Err x) old)
    (pick (ltb journal_limit journal) (outcome (Err refusal.Journal) old)
    (mounted_by old table journal (objects_in r e) (mount_call memory r e online locked)))

-- "Mount fills it", with the table of the objects os, and no more of it; "A refused call leaves the table alone"
unfoldable pub table_mounted : List ℕ → List Object → Answer → List ℕ
table_mounted tb os (Ok (answer.Step i)) = sets tb 0 (table_of os)
table_mounted tb os (Ok answer.Idle) = tb
table_mounted tb os (Err r) = tb
