-- A host of the exported calls: it holds the state's block and four buffers, and hands them to one call after another.
use Rattle.std.specs.Prelude.{Err}
use Rattle.std.specs.Prelude.{List, [], ◌∷◌, map, Bool, true, false, ◌≡◌, ℕ, suc, ◌≤◌, drop, length}
use Rattle.lists.specs.Words.{Bytes}
use Rattle.tape.specs.Afresh.{objects_in}
use Rattle.tape.specs.Letters.{letter_of}
use Rattle.index.specs.Table.{Indexed}
use Rattle.tape.specs.declared.BlockFault.{BlockFault}
use Rattle.entries.specs.Entries.{used_in}
use Rattle.state.specs.declared.refusal.Refusal.{Refusal}
use Rattle.state.specs.Refusals.{refusal_number}
use Rattle.worlds.specs.Worlds.{Answered}
use Rattle.worlds.specs.Calls.{mount_on, table_mounted}
use Rattle.worlds.specs.Worlds.{Outcome}
use Rattle.worlds.specs.Passes.{Fit}
use Rattle.sessions.specs.Session.{Kind, Standing, entry_of, looked, refused, stepped}
use Rattle.sessions.specs.Calling.{Call, Here, Noted, call_kind, calls, journal_of, length_of, on_call, world_from}
use Rattle.kept.specs.Formed.{Formed}
use Rattle.sessions.specs.Advancing.{Crowded, Ends, FaultAhead, Full, Idle, checked_with}
use Rattle.sessions.specs.Good.{Fresh}
use Rattle.sessions.specs.Rules.{Obeys}
use Rattle.stateblock.specs.Block.{Block, is_block, session_in}
use Rattle.ts11.specs.Given.{Gives, Host, Mounts, back_given, opened, world_in}

-- the exported calls that take buffers, by the names of the session's calls
unfoldable pub given : Call → Host → Answered
given c h = opened h (on_call (length h.journal) c (world_in h))

-- h and h' hold the same bytes, and of their journals the same first `used`
pub record Alike (used : ℕ) (h h' : Host) : Type 0 where
  pub block : h'.block ≡ h.block
  pub memory : h'.memory ≡ h.memory
  pub reel : h'.reel ≡ h.reel
  pub table : h'.table ≡ h.table
  pub journal : used_in used h'.journal ≡ used_in used h.journal

-- h' holds all that h holds. "Journal bytes outside the used part are not promised." (01)
abbrev pub Unchanged : Host → Host → Type 0
Unchanged h h' = Alike (session_in h.block).used h h'

-- h' is what the host holds when a call that gives x on h has returned k: a journal of the same length, and a state that is bytes
pub record Returned (h : Host) (x : Answered) (k : ℕ) (h' : Host) : Type 0 where
  pub gives : Gives h x k h'
  pub long : length h'.journal ≡ length h.journal
  pub bytes : Bytes h'.block

-- what a mount comes to, and the table after it
abbrev pub mount_given : Host → ℕ → ℕ → ℕ → Bool → Bool → Outcome
mount_given h memory journal end online locked = mount_on (session_in h.block) memory h.reel (length h.table) journal end online locked

abbrev pub table_given : Host → ℕ → ℕ → ℕ → Bool → Bool → List ℕ
table_given h memory journal end online locked = table_mounted h.table (objects_in h.reel end) (mount_given h memory journal end online locked).answer

-- any exported call on h that is lent something to change returned k, and then the host holds h': a step or a reading, a step back, or a mount, which is handed no
-- memory and no journal. The look-ups are lent the state and the table for reading alone.
pub data Exported (h : Host) (k : ℕ) : Host → Type 0 where
  a_call : {h' : Host} (c : Call) → Returned h (given c h) k h' → Exported h k h'
  a_step_back : {h' : Host} → Returned h (back_given h) k h' → Exported h k h'
  a_mount : {b' tb' : List ℕ} {block fault : ℕ} (memory journal end : ℕ) (online locked : Bool)
      → Mounts h.block (mount_given h memory journal end online locked) (table_given h memory journal end online locked) k b' tb' block fault
      → Exported h k (record { block = b'; memory = h.memory; reel = h.reel; table = tb'; journal = h.journal })

-- what a host did, and the number that it was returned
pub data Line : Type 0 where
  made : Call → ℕ → Line
  back : ℕ → Line

-- the calls of the log, newest first, led from h₀ to h
pub data Hosted (h₀ : Host) : List Line → Host → Type 0 where
  begun : Hosted h₀ [] h₀
  and_made : {l : List Line} {h h' : Host} {k : ℕ} (c : Call) → Hosted h₀ l h → Returned h (given c h) k h' → Hosted h₀ (made c k ∷ l) h'
  and_back : {l : List Line} {h h' : Host} {k : ℕ} → Hosted h₀ l h → Returned h (back_given h) k h' → Hosted h₀ (back k ∷ l) h'

-- the hosts that stood before the steps of a host's run that stand, newest first: a step back takes the newest away
abbrev stood_by : Kind → Host → List Host → List Host
stood_by stepped h l = h ∷ l
stood_by refused h l = l
stood_by looked h l = l

unfoldable pub hosts_stood : {h₀ h : Host} {l : List Line} → Hosted h₀ l h → List Host
hosts_stood begun = []
hosts_stood (and_made {h = h} c r g) = stood_by (call_kind c (given c h).answer) h (hosts_stood r)
hosts_stood (and_back r g) = drop 1 (hosts_stood r)

-- k calls of step back, each answered 0, led from h to h'
pub data WentBack : ℕ → Host → Host → Type 0 where
  no_step : {h : Host} → WentBack 0 h h
  one_more : {k : ℕ} {h h₁ h₂ : Host} → Returned h (back_given h) 0 h₁ → WentBack k h₁ h₂ → WentBack (suc k) h h₂

-- calls led from h to h', and every step among them was undone
pub data Round : Host → Host → Type 0 where
  still : {h : Host} → Round h h
  and_none : {h h₁ h₂ : Host} {k : ℕ} (c : Call)
      → Round h h₁ → Returned h₁ (given c h₁) k h₂ → (call_kind c (given c h₁).answer ≡ stepped → ⊥) → Round h h₂
  and_undone : {h h₁ h₂ h₃ h₄ : Host} {k l : ℕ} (c : Call)
      → Round h h₁ → Returned h₁ (given c h₁) k h₂ → call_kind c (given c h₁).answer ≡ stepped
      → Round h₂ h₃ → Returned h₃ (back_given h₃) l h₄ → Round h h₄

-- the host h is at the moment s of a session with a journal of n bytes: it holds that moment's world, as some session's block
pub record AtMoment (n : ℕ) (s : Here) (h : Host) : Type 0 where
  pub world : world_from n s ≡ world_in h
  pub block : Block h.block
  pub long : length h.journal ≡ n

-- the moment that h holds, with no entry
abbrev pub first : Host → Here
first h = record { core = (world_in h).core; entries = [] }

-- what a host holds when a session begins
pub record Begins (h : Host) : Type 0 where
  pub fresh : Fresh (length h.journal) (first h)
  pub here : AtMoment (length h.journal) (first h) h

-- no check refuses; "the reel is well formed, the position is 0 or just after an object"; the table is the one worked out afresh from the reel
pub record GoodHost (h : Host) : Type 0 where
  pub fit : Fit (length h.journal) (world_in h)
  pub formed : Formed h.reel (session_in h.block).unit.tape
  pub indexed : Indexed h.reel (session_in h.block).unit.tape.end h.table (session_in h.block).objects

-- "the journal holds one entry per step taken and still standing": the used journal is the entries of these steps, each that step's own, and
-- nothing else
pub record Entries (h : Host) (n : ℕ) (steps : List (Standing (calls n))) : Type 0 where
  pub noted : List Noted
  pub each : noted ≡ map (entry_of (calls n)) steps
  pub used : (session_in h.block).used ≡ length_of noted
  pub bytes : used_in (session_in h.block).used h.journal ≡ journal_of noted

-- what an exported advance on h returned and told, and that it left h': bytes that are no state's, refusals 1 to 4, idle, 7 with the block and its
-- fault's letter, 11, 9, or a step
pub data HostComes (h : Host) (number : ℕ) (steps interrupts : Bool) (block fault : ℕ) (h' : Host) : Type 0 where
  no_state : is_block h.block ≡ false → number ≡ 1 → steps ≡ false → interrupts ≡ false → block ≡ 0 → fault ≡ 0 → h' ≡ h → HostComes h number steps interrupts block fault h'
  refused_first : {r : Refusal} → (number ≡ 0 → ⊥) → number ≤ 4 → checked_with (length h.journal) (world_in h) ≡ Err r → number ≡ refusal_number r → steps ≡ false → interrupts ≡ false → block ≡ 0 → fault ≡ 0 → h' ≡ h → HostComes h number steps interrupts block fault h'
  idle : Idle (world_in h).core.unit → number ≡ 0 → steps ≡ false → interrupts ≡ false → block ≡ 0 → fault ≡ 0 → h' ≡ h → HostComes h number steps interrupts block fault h'
  at_fault : {why : BlockFault} → (Idle (world_in h).core.unit → ⊥) → FaultAhead (world_in h).core why block → fault ≡ letter_of why → number ≡ 7 → steps ≡ false → interrupts ≡ false → h' ≡ h → HostComes h number steps interrupts block fault h'
  no_place : (Idle (world_in h).core.unit → ⊥) → Ends (world_in h) → Crowded (world_in h) → number ≡ 11 → steps ≡ false → interrupts ≡ false → block ≡ 0 → fault ≡ 0 → h' ≡ h → HostComes h number steps interrupts block fault h'
  no_room : (Idle (world_in h).core.unit → ⊥) → Ends (world_in h) → (Crowded (world_in h) → ⊥) → Full (world_in h) → number ≡ 9 → steps ≡ false → interrupts ≡ false → block ≡ 0 → fault ≡ 0 → h' ≡ h → HostComes h number steps interrupts block fault h'
  a_step : (Idle (world_in h).core.unit → ⊥) → (Crowded (world_in h) → ⊥) → (Full (world_in h) → ⊥) → number ≡ 0 → steps ≡ true → block ≡ 0 → fault ≡ 0 → Obeys (world_in h).core interrupts (world_in h').core
      → HostComes h number steps interrupts block fault h'

-- a look-up was not refused, and told of a place exactly where P has one
pub record Locates (P : ℕ → Type 0) (number : ℕ) (told : Bool) (place : ℕ) : Type 0 where
  pub answered : number ≡ 0
  pub right : told ≡ true → P place
  pub all : (i : ℕ) → P i → (told ≡ true) × (place ≡ i)
