-- Four transports on one coupler (02, [9]): "memory and journal are shared, reels and their tables are not." All that calls over a row can change, in two parts
-- again: the rig that steps change and steps back bring back, and the ledger of the steps that stand. Each call of a transport is the call of its own world.
use Rattle.std.specs.Prelude.{Bool, false, Result, Ok, Err, ⊤, not, List, [], map, ℕ, eqb, get_or, length, set, take}
use Rattle.lists.specs.Pick.{pick}
use Rattle.tape.specs.Afresh.{objects_in}
use Rattle.state.specs.declared.refusal.Refusal.TheVariants as refusal
use Rattle.commands.specs.Answers.{Answer}
use Rattle.commands.specs.declared.plans.Done.TheVariants as answer
use Rattle.state.specs.Refusals.{behind}
use Rattle.state.specs.declared.refusal.Refusal.{Refusal}
use Rattle.touched.specs.Touches.{memory_back}
use Rattle.unit.specs.Asks.{Ask, host_store}
use Rattle.unit.specs.Cores.{Core}
use Rattle.unit.specs.Steps.{step_of}
use Rattle.unit.specs.declared.registers.Register.{Register}
use Rattle.entries.specs.Entries.{entry_fits, newest_entry, saved_in, transports}
use Rattle.entries.specs.declared.Entry.{Entry}
use Rattle.worlds.specs.Calls.{RegisterRead, mount_on, outcome, refused_as, register_on, step_on, table_mounted, taken_by, undo_on, without}
use Rattle.worlds.specs.Rows.{absent_in, back_refusal, coupler_checked, coupler_of, no_transport, session_over, transport_of, unit_over}
use Rattle.worlds.specs.Worlds.{Answered, Ledger, Outcome, World, answered, session_of, world_of}
use Rattle.worlds.specs.declared.Coupler.{Coupler}
use Rattle.worlds.specs.declared.Seat.{Seat}
use Rattle.worlds.specs.declared.Transport.{Transport}

-- a transport: its record, its reel and its table
pub record Deck : Type 0 where
  pub transport : Transport
  pub reel : List ℕ
  pub table : List ℕ

abbrev pub no_deck : Deck
no_deck = record { transport = no_transport; reel = []; table = [] }

-- the row, the memory, and memory's length at the last mount
pub record Rig : Type 0 where
  pub decks : List Deck
  pub memory : List ℕ
  pub mounted : ℕ

pub record Coupled : Type 0 where
  pub rig : Rig
  pub ledger : Ledger

pub record CoupledAnswer : Type 0 where
  pub answer : Answer
  pub coupled : Coupled

abbrev pub told : Answer → Coupled → CoupledAnswer
told a w = record { answer = a; coupled = w }

abbrev pub deck_at : Rig → ℕ → Deck
deck_at g k = get_or g.decks k no_deck

-- the core of transport k, and of none: what a host store is a step of
unfoldable pub core_of : ℕ → Rig → Core
core_of k g =
    record {
      unit = unit_over g.mounted (deck_at g k).transport;
      objects = (deck_at g k).transport.objects;
      memory = g.memory;
      reel = (deck_at g k).reel;
      table = (deck_at g k).table;
    }

unfoldable pub core_of_none : Rig → Core
core_of_none g = record { unit = unit_over g.mounted no_transport; objects = 0; memory = g.memory; reel = []; table = [] }

-- and put back
abbrev pub deck_of : Core → Deck
deck_of c =
    record {
      transport =
          record {
            tape = c.unit.tape;
            registers = c.unit.registers;
            panel = c.unit.panel;
            attention = c.unit.attention;
            characteristics = c.unit.characteristics;
            blocks = c.unit.lengths.blocks;
            objects = c.objects;
          };
      reel = c.reel;
      table = c.table;
    }

unfoldable pub with_core : ℕ → Core → Rig → Rig
with_core k c g = record { decks = set g.decks k (deck_of c); memory = c.memory; mounted = g.mounted }

abbrev pub with_memory : List ℕ → Rig → Rig
with_memory m g = record { decks = g.decks; memory = m; mounted = g.mounted }

-- the world of transport k, and of none
abbrev pub view_of : ℕ → Coupled → World
view_of k w = record { number = k; core = core_of k w.rig; ledger = w.ledger }

abbrev pub view_of_none : Coupled → World
view_of_none w = record { number = transports; core = core_of_none w.rig; ledger = w.ledger }

-- the world of none that a call of no transport is handed
abbrev pub world_of_none : Coupler → List ℕ → List ℕ → World
world_of_none c m j = world_of transports (session_over c no_transport) m [] [] j

-- what a call of no transport that is handed c hands back, in the world of none
abbrev pub coupler_left : Coupler → Result Coupler Refusal → Coupler
coupler_left c (Ok x) = x
coupler_left c (Err r) = c

abbrev pub shared_answer : Result Coupler Refusal → Answer
shared_answer (Ok x) = Ok (answer.Step false)
shared_answer (Err r) = Err r

abbrev pub shared_outcome : Coupler → Result Coupler Refusal → Outcome
shared_outcome c x = outcome (shared_answer x) (session_over (coupler_left c x) no_transport)

-- what a call of transport k, or of none, answered and left
unfoldable pub lifted : ℕ → Coupled → Answered → CoupledAnswer
lifted k w x = told x.answer (record { rig = with_core k x.world.core w.rig; ledger = x.world.ledger })

unfoldable pub lifted_none : Coupled → Answered → CoupledAnswer
lifted_none w x = told x.answer (record { rig = with_memory x.world.core.memory w.rig; ledger = x.world.ledger })

-- "Each returns its number and changes nothing"; 12 first of all
abbrev pub refused_with : Refusal → Coupled → CoupledAnswer
refused_with r w = told (Err r) w

abbrev pub is_absent : Coupled → ℕ → Bool
is_absent w k = absent_in (length w.rig.decks) k

-- a TSDB or TSSR write, operator act or advance of transport k, with a journal of n bytes
unfoldable pub step_at : Coupled → ℕ → ℕ → Ask → CoupledAnswer
step_at w n k a = pick (is_absent w k) (refused_with refusal.Absent w) (lifted k w (step_on (view_of k w) n a))

-- "refusal 1 and word 0"; of a unit not present 12 and word 0
unfoldable pub register_at : Coupled → ℕ → Register → RegisterRead
register_at w k r = pick (is_absent w k) (record { answer = Err refusal.Absent; word = 0 }) (register_on (session_of (view_of k w)) r)

-- "Host stores belong to no unit": 1, 2 and 4 by the coupler's numbers, then as any step; on the world of none
unfoldable pub host_on : World → ℕ → ℕ → List ℕ → Answered
host_on w n place bytes =
    behind (coupler_checked (coupler_of (session_of w)) (length w.core.memory) n) (λ r. refused_as r w)
    (taken_by w (step_of (host_store place bytes) w.core) (step_of (host_store place bytes) w.core).answer)

unfoldable pub host_at : Coupled → ℕ → ℕ → List ℕ → CoupledAnswer
host_at w n place bytes = lifted_none w (host_on (view_of_none w) n place bytes)

-- an entry that names none brings memory back, and no state
unfoldable pub undone_none : Entry → List ℕ → Core → Core
undone_none e b c =
    record { unit = c.unit; objects = c.objects; memory = memory_back e.touched b c.memory; reel = c.reel; table = c.table }

unfoldable pub undo_none_by : World → Entry → Answered
undo_none_by w e =
    pick (not (entry_fits e w.ledger.used w.core.unit.lengths (length w.core.memory) 0 0)) (refused_as refusal.Entry w)
    (answered (Ok (answer.Step false))
    (record { number = w.number; core = undone_none e (saved_in e w.ledger.bytes) w.core; ledger = without w.ledger e }))

unfoldable pub undo_none : World → Answered
undo_none w = undo_none_by w (newest_entry 0 w.ledger.bytes)

-- the transports with the lengths of their reels; "records from the fifth on" are not looked at
abbrev pub seat_of : Deck → Seat
seat_of d = record { transport = d.transport; reel = length d.reel }

abbrev pub seats_of : Rig → List Seat
seats_of g = map seat_of (take transports g.decks)

abbrev pub coupler_in : Coupled → Coupler
coupler_in w = record { used = w.ledger.used; memory = w.rig.mounted; journal = w.ledger.length }

-- which transport the newest entry names
abbrev pub named_in : List ℕ → ℕ
named_in j = (newest_entry 0 j).transport

-- "Step back undoes the newest step of any unit": of transport k, or of none
unfoldable pub undo_named : Coupled → ℕ → CoupledAnswer
undo_named w k = pick (eqb k transports) (lifted_none w (undo_none (view_of_none w))) (lifted k w (undo_on (view_of k w)))

abbrev pub back_checked : Coupled → ℕ → Result ⊤ Refusal
back_checked w n = back_refusal (coupler_in w) (seats_of w.rig) (length w.rig.memory) n (named_in w.ledger.bytes)

unfoldable pub back_over : Coupled → ℕ → CoupledAnswer
back_over w n = behind (back_checked w n) (λ r. refused_with r w) (undo_named w (named_in w.ledger.bytes))

-- "mounting any unit empties the journal for all", sets what is shared, and touches no other record: transport k after a mount o, whose table is then tb
unfoldable pub mounted_at : Coupled → ℕ → Outcome → List ℕ → Answer → Coupled
mounted_at w k o tb (Ok (answer.Step i)) =
    record {
      rig =
          record {
            decks = set w.rig.decks k (record { transport = transport_of o.session; reel = (deck_at w.rig k).reel; table = tb });
            memory = w.rig.memory;
            mounted = o.session.unit.lengths.memory;
          };
      ledger = record { used = 0; length = o.session.journal; bytes = [] };
    }
mounted_at w k o tb (Ok answer.Idle) = w
mounted_at w k o tb (Err n) = w

unfoldable pub mount_at : Coupled → ℕ → ℕ → ℕ → Bool → Bool → CoupledAnswer
mount_at w n k e online locked =
    let d = deck_at w.rig k in
    let o = mount_on (session_over (coupler_in w) d.transport) (length w.rig.memory) d.reel (length d.table) n e online locked in
    pick (is_absent w k) (refused_with refusal.Absent w) (told o.answer (mounted_at w k o (table_mounted d.table (objects_in d.reel e) o.answer) o.answer))
