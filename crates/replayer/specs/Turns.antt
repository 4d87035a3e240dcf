-- What a line comes to, with the first n of the bytes b: its turn, and memory m, reel r, table tb and journal j after it. A line that can't be taken tells its fault, and all stays.
use Rattle.std.specs.Prelude.{List, ◌≡◌, ℕ, length, take, Result, Ok, Err}
use Rattle.std.proofs.lemmas.List.Edits.{sets}
use Rattle.desk.specs.Arranges.{arranged, cleared_by}
use Rattle.desk.specs.Builds.{built_answer, built_memory, built_reel}
use Rattle.desk.specs.Desks.{front, room_of}
use Rattle.desk.specs.Tables.{tabled_bytes, tabled_turn}
use Rattle.desk.specs.Turns.{settled, still}
use Rattle.desk.specs.declared.Turn.{Turn}
use Rattle.desk.specs.declared.desk.Desk.{Desk}
use Rattle.lines.specs.declared.Does.{Does}
use Rattle.lines.specs.declared.Does.TheVariants as does
use Rattle.script.specs.declared.Fault.{Fault}
use Rattle.script.specs.Fills.{wiped}
use Rattle.replayer.specs.Keeps.{JournalKept, call_turn, memory_kept, reel_kept, table_kept}

unfoldable pub turn_on : Desk → Result Does Fault → List ℕ → ℕ → List ℕ → List ℕ → List ℕ → List ℕ → Result Turn Fault
turn_on d (Ok does.Nothing) b n m r tb j = still d
turn_on d (Ok (does.Arranges a)) b n m r tb j = arranged d a (room_of m r tb j)
turn_on d (Ok (does.Builds k)) b n m r tb j = settled d (built_answer k d.cursor (take n b) (length b) n (length (front d.sizes.memory m)) (length (front d.sizes.reel r)))
turn_on d (Ok (does.Tables t)) b n m r tb j = tabled_turn d t (take n b) tb
turn_on d (Ok (does.Calls c)) b n m r tb j = call_turn d c (take n b) m r tb j
turn_on d (Err f) b n m r tb j = Err f

unfoldable pub memory_on : Desk → Result Does Fault → List ℕ → ℕ → List ℕ → List ℕ → List ℕ → List ℕ → List ℕ
memory_on d (Ok does.Nothing) b n m r tb j = m
memory_on d (Ok (does.Arranges a)) b n m r tb j = wiped m 0 (cleared_by d a (room_of m r tb j)).memory
memory_on d (Ok (does.Builds k)) b n m r tb j = sets m 0 (built_memory k d.cursor (take n b) (front d.sizes.memory m))
memory_on d (Ok (does.Tables t)) b n m r tb j = m
memory_on d (Ok (does.Calls c)) b n m r tb j = memory_kept d c (take n b) m r tb j
memory_on d (Err f) b n m r tb j = m

unfoldable pub reel_on : Desk → Result Does Fault → List ℕ → ℕ → List ℕ → List ℕ → List ℕ → List ℕ → List ℕ
reel_on d (Ok does.Nothing) b n m r tb j = r
reel_on d (Ok (does.Arranges a)) b n m r tb j = wiped r 0 (cleared_by d a (room_of m r tb j)).reel
reel_on d (Ok (does.Builds k)) b n m r tb j = sets r 0 (built_reel k d.cursor (take n b) (length b) n (front d.sizes.reel r))
reel_on d (Ok (does.Tables t)) b n m r tb j = r
reel_on d (Ok (does.Calls c)) b n m r tb j = reel_kept d c (take n b) m r tb j
reel_on d (Err f) b n m r tb j = r

unfoldable pub table_on : Desk → Result Does Fault → List ℕ → ℕ → List ℕ → List ℕ → List ℕ → List ℕ → List ℕ
table_on d (Ok does.Nothing) b n m r tb j = tb
table_on d (Ok (does.Arranges a)) b n m r tb j = wiped tb 0 (cleared_by d a (room_of m r tb j)).table
table_on d (Ok (does.Builds k)) b n m r tb j = tb
table_on d (Ok (does.Tables t)) b n m r tb j = tabled_bytes d t (take n b) tb
table_on d (Ok (does.Calls c)) b n m r tb j = table_kept d c (take n b) m r tb j
table_on d (Err f) b n m r tb j = tb

-- a call promises nothing of the unused journal, so this is a fact about the journal after it
unfoldable pub JournalOn : Desk → Result Does Fault → List ℕ → ℕ → List ℕ → List ℕ → List ℕ → List ℕ → List ℕ → Type 0
JournalOn d (Ok does.Nothing) b n m r tb j j' = j' ≡ j
JournalOn d (Ok (does.Arranges a)) b n m r tb j j' = j' ≡ wiped j 0 (cleared_by d a (room_of m r tb j)).journal
JournalOn d (Ok (does.Builds k)) b n m r tb j j' = j' ≡ j
JournalOn d (Ok (does.Tables t)) b n m r tb j j' = j' ≡ j
JournalOn d (Ok (does.Calls c)) b n m r tb j j' = JournalKept d c (take n b) m r tb j j'
JournalOn d (Err f) b n m r tb j j' = j' ≡ j
