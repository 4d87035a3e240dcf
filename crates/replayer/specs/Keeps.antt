-- What a line that makes a call leaves: the desk with the call's session, and the buffers without what the call left beyond the sizes.
use Rattle.std.specs.Prelude.{List, ◌≡◌, ℕ, length, Result, Ok}
use Rattle.std.proofs.lemmas.List.Edits.{sets}
use Rattle.desk.specs.Desks.{front, handed_of}
use Rattle.desk.specs.declared.Said.TheVariants as said
use Rattle.desk.specs.declared.Turn.{Turn}
use Rattle.desk.specs.declared.desk.Desk.{Desk}
use Rattle.lines.specs.declared.Call.{Call}
use Rattle.results.specs.declared.Told.{Told}
use Rattle.script.specs.declared.Fault.{Fault}
use Rattle.script.specs.Fills.{wiped}
use Rattle.worlds.specs.declared.Session.{Session}
use Rattle.replayer.specs.Hands.{hand_on, hand_told}
use Rattle.replayer.specs.Journals.{JournalLeft}

-- the desk with this session
abbrev pub with_session : Desk → Session → Desk
with_session d s = record d { session = s }

abbrev pub kept_as : Desk → Told → Turn
kept_as d t = record { desk = with_session d t.session; said = said.Result t }

unfoldable pub call_turn : Desk → Call → List ℕ → List ℕ → List ℕ → List ℕ → List ℕ → Result Turn Fault
call_turn d c b m r tb j = Ok (kept_as d (hand_told d c b m r tb j))

-- memory, reel and table: what was handed is as the call leaves it, the rest stays, and zeros go from the sizes to where the handed part ends
unfoldable pub memory_kept : Desk → Call → List ℕ → List ℕ → List ℕ → List ℕ → List ℕ → List ℕ
memory_kept d c b m r tb j = wiped (sets m 0 (hand_on d c b m r tb j).world.core.memory) d.sizes.memory (handed_of d).memory

unfoldable pub reel_kept : Desk → Call → List ℕ → List ℕ → List ℕ → List ℕ → List ℕ → List ℕ
reel_kept d c b m r tb j = wiped (sets r 0 (hand_on d c b m r tb j).world.core.reel) d.sizes.reel (handed_of d).reel

unfoldable pub table_kept : Desk → Call → List ℕ → List ℕ → List ℕ → List ℕ → List ℕ → List ℕ
table_kept d c b m r tb j = wiped (sets tb 0 (hand_on d c b m r tb j).world.core.table) d.sizes.table (handed_of d).table

-- the journal's buffer once the call is made: `left` stands where the handed part was
pub record JournalHanded (d : Desk) (c : Call) (b m r tb j j' : List ℕ) : Type 0 where
  pub left : List ℕ
  pub whole : length left ≡ length (front (handed_of d).journal j)
  pub leaves : JournalLeft c (hand_on d c b m r tb j) (front (handed_of d).journal j) left
  pub stored : j' ≡ sets j 0 left

-- and after the zeros
pub record JournalKept (d : Desk) (c : Call) (b m r tb j j' : List ℕ) : Type 0 where
  pub made : List ℕ
  pub handed : JournalHanded d c b m r tb j made
  pub trimmed : j' ≡ wiped made d.sizes.journal (handed_of d).journal
