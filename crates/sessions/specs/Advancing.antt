-- What a call of advance comes to, from every world and with every lent journal: refused with 1 to 4, idle, refused with 7, 11 or 9, or a step. A
-- unit that refuses always or does nothing is none of these. (01, "Calls", and the table of refusals)
use Rattle.std.specs.Prelude.{Result, Ok, Err, ⊤}
use Rattle.std.specs.Prelude.{Bool, true, false, ◌&&◌, List, ◌≡◌, ℕ, ◌<◌, ◌-◌, ◌/◌, length}
use Rattle.tape.specs.Numbers.{block_bytes}
use Rattle.tape.specs.declared.BlockFault.{BlockFault}
use Rattle.state.specs.declared.Unit.{Unit}
use Rattle.state.specs.declared.refusal.Refusal.{Refusal}
use Rattle.state.specs.declared.refusal.Refusal.TheVariants as refusal
use Rattle.commands.specs.Answers.{bad_block}
use Rattle.commands.specs.Answers.{is_step}
use Rattle.commands.specs.Answers.{Answer}
use Rattle.commands.specs.declared.plans.Done.TheVariants as answer
use Rattle.advance.specs.Rules.{reverse_first}
use Rattle.demands.specs.Faults.{FirstFault}
use Rattle.demands.specs.MustRead.{MustRead}
use Rattle.unit.specs.Asks.{advance}
use Rattle.unit.specs.Cores.{Core}
use Rattle.unit.specs.Steps.{step_of}
use Rattle.entries.specs.Entries.{entry_length}
use Rattle.worlds.specs.Calls.{refused_as}
use Rattle.worlds.specs.Refusals.{checked}
use Rattle.worlds.specs.Worlds.{Answered, World, answered, session_of}
use Rattle.sessions.specs.Calling.{entry_at, step}
use Rattle.sessions.specs.Good.{NoPlace}
use Rattle.sessions.specs.Rules.{Obeys, header_in}

-- "Advance with no command waiting and no attention to send answers Idle after checks 1 to 4"; one is sent only while the unit owns the buffer
abbrev pub Idle : Unit → Type 0
Idle u = (u.registers.ssr ≡ true) × ((u.attention.pending && u.attention.unit_owns) ≡ false)

-- "a block that .. the command must read is damaged or out of place": the command comes to read block k, which is the first at fault ahead of the
-- tape, in the direction of its first stage; the reel holds it
pub record FaultAhead (c : Core) (why : BlockFault) (k : ℕ) : Type 0 where
  pub read : MustRead c.unit c.memory c.reel why k
  pub held : k < length c.reel / block_bytes
  pub first : FirstFault c.reel c.unit.tape.end (reverse_first (header_in c)) c.unit.tape.position why k

-- the same for a mount of the reel r up to the end e, which answers a: it reads every block from 0 on
abbrev pub Names : List ℕ → ℕ → Answer → Type 0
Names r e a = (why : BlockFault) × (k : ℕ) × (a ≡ bad_block why k) × (k < length r / block_bytes) × FirstFault r e false 0 why k

-- the command comes to an end, or an attention goes out: nothing is left to ask but for places and room, and 7 is not due
abbrev pub Ends : World → Type 0
Ends w = is_step (step_of advance w.core).answer ≡ true

-- "9 free journal less than the entry"
abbrev pub Full : World → Type 0
Full w = w.ledger.length - w.ledger.used < entry_length (entry_at w.number (step advance tt) w.core)

-- "11 when the table is too small for the objects, checked after 8 and before 9" (02, [8])
abbrev pub Crowded : World → Type 0
Crowded w = NoPlace w.core (step_of advance w.core)

-- the first of refusals 1 to 4 that holds
abbrev pub checked_with : ℕ → World → Result ⊤ Refusal
checked_with n w = checked (session_of w) (length w.core.memory) (length w.core.reel) n

-- the call comes to x
pub data Comes (n : ℕ) (w : World) (x : Answered) : Type 0 where
  refused : {r : Refusal} → checked_with n w ≡ Err r → x ≡ refused_as r w → Comes n w x
  idle : checked_with n w ≡ Ok tt → Idle w.core.unit → x ≡ answered (Ok answer.Idle) w → Comes n w x
  at_fault : {why : BlockFault} {k : ℕ} → checked_with n w ≡ Ok tt → (Idle w.core.unit → ⊥) → FaultAhead w.core why k → x ≡ answered (bad_block why k) w → Comes n w x
  no_place : checked_with n w ≡ Ok tt → (Idle w.core.unit → ⊥) → Ends w → Crowded w → x ≡ refused_as refusal.Table w → Comes n w x
  no_room : checked_with n w ≡ Ok tt → (Idle w.core.unit → ⊥) → Ends w → (Crowded w → ⊥) → Full w → x ≡ refused_as refusal.Room w → Comes n w x
  a_step : {i : Bool} → checked_with n w ≡ Ok tt → (Idle w.core.unit → ⊥) → (Crowded w → ⊥) → (Full w → ⊥) → x.answer ≡ Ok (answer.Step i) → Obeys w.core i x.world.core → Comes n w x
