-- What an exported call gives: the journal's answer as numbers, and what the host holds after it.
use Rattle.std.specs.Prelude.{Bool, Err, true, false, List, ◌≡◌, ℕ, length}
use Rattle.lists.specs.Pick.{pick}
use Rattle.state.specs.declared.act.Act.{Act}
use Rattle.state.specs.declared.act.Act.TheVariants as act
use Rattle.state.specs.declared.refusal.Refusal.TheVariants as refusal
use Rattle.commands.specs.Answers.{block_in, fault_in, interrupt_in, is_step, number_of}
use Rattle.unit.specs.Asks.{Ask}
use Rattle.unit.specs.declared.registers.Register.{Register}
use Rattle.unit.specs.declared.registers.Register.TheVariants as register
use Rattle.entries.specs.Entries.{used_in}
use Rattle.worlds.specs.Worlds.{Answered, Outcome, World, session_of, world_of}
use Rattle.worlds.specs.Calls.{RegisterRead, back_on, read_of, refused_as, register_on, step_on}
use Rattle.stateblock.specs.Block.{block_after, is_block, session_in}

-- all that a host holds and hands to a call: the state's block and four buffers
pub record Host : Type 0 where
  pub block : List ℕ
  pub memory : List ℕ
  pub reel : List ℕ
  pub table : List ℕ
  pub journal : List ℕ

abbrev pub holding : (b m r tb j : List ℕ) → Host
holding b m r tb j = record { block = b; memory = m; reel = r; table = tb; journal = j }

-- the world of the session that it holds
abbrev pub world_in : Host → World
world_in h = world_of 0 (session_in h.block) h.memory h.reel h.table h.journal

-- bytes that are no session's block are refused with 1, as a state out of range is
unfoldable pub opened : Host → Answered → Answered
opened h x = pick (is_block h.block) x (refused_as refusal.State (world_in h))

-- a TSDB or TSSR write, operator act, host store or advance
unfoldable pub step_given : Ask → Host → Answered
step_given a h = opened h (step_on (world_in h) (length h.journal) a)

unfoldable pub back_given : Host → Answered
back_given h = opened h (back_on (world_in h) (length h.journal))

-- "operator act (on line, off line, write lock on, off)": which switch, and where it is put
unfoldable pub act_of : Bool → Bool → Act
act_of false true = act.OnLine
act_of false false = act.OffLine
act_of true true = act.Lock
act_of true false = act.Unlock

unfoldable pub register_of : Bool → Register
register_of false = register.Tsba
register_of true = register.Tssr

-- "Reading a register gives 0 and its word, or refusal 1 and word 0"
unfoldable pub register_given : List ℕ → Bool → RegisterRead
register_given b tssr = pick (is_block b) (register_on (session_in b) (register_of tssr)) (read_of (Err refusal.State))

-- what a call returns, and what the host h holds after it, is the definition's answer and world
pub record Gives (h : Host) (x : Answered) (number : ℕ) (h' : Host) : Type 0 where
  pub answer : number ≡ number_of x.answer
  pub state : h'.block ≡ block_after h.block x.answer (session_of x.world)
  pub memory : h'.memory ≡ x.world.core.memory
  pub reel : h'.reel ≡ x.world.core.reel
  pub table : h'.table ≡ x.world.core.table
  pub journal : used_in x.world.ledger.used h'.journal ≡ x.world.ledger.bytes
  -- and every byte of it where no step was taken
  pub unless_step : is_step x.answer ≡ false → h'.journal ≡ h.journal

-- an advance's answer, told beside its number
pub record Tells (x : Answered) (s i : Bool) (k f : ℕ) : Type 0 where
  pub stepped : s ≡ is_step x.answer
  pub interrupt : i ≡ interrupt_in x.answer
  pub block : k ≡ block_in x.answer
  pub fault : f ≡ fault_in x.answer

-- a register's word, and its answer
pub record Reads (x : RegisterRead) (number w : ℕ) : Type 0 where
  pub answer : number ≡ number_of x.answer
  pub word : w ≡ x.word

-- a mount, whose table is then tb: "a refused mount hands that back"
pub record Mounts (b : List ℕ) (o : Outcome) (tb : List ℕ) (number : ℕ) (b' tb' : List ℕ) (k f : ℕ) : Type 0 where
  pub answer : number ≡ number_of o.answer
  pub state : b' ≡ block_after b o.answer o.session
  pub table : tb' ≡ tb
  pub block : k ≡ block_in o.answer
  pub fault : f ≡ fault_in o.answer
