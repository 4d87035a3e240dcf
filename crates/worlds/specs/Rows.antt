-- A row of transports over one coupler: their records, what they share, and the refusals of calls over them. (02, [9])
use Rattle.std.specs.Prelude.{Bool, false, Result, Ok, Err, ⊤, ◌&&◌, ◌||◌, not, List, ℕ, ◌*◌, eqb, leb, ltb, get_or, length}
use Rattle.std.specs.List.{list_any}
use Rattle.lists.specs.Pick.{pick}
use Rattle.tape.specs.Numbers.{block_bytes}
use Rattle.state.specs.Checks.{memory_right, state_wrong}
use Rattle.state.specs.declared.Unit.{Unit}
use Rattle.state.specs.Refusals.{behind}
use Rattle.state.specs.declared.refusal.Refusal.{Refusal}
use Rattle.state.specs.declared.refusal.Refusal.TheVariants as refusal
use Rattle.entries.specs.Entries.{entry_bare, transports}
use Rattle.worlds.specs.Refusals.{journal_limit}
use Rattle.worlds.specs.declared.Coupler.{Coupler}
use Rattle.worlds.specs.declared.Seat.{Seat}
use Rattle.worlds.specs.declared.Session.{Session}
use Rattle.worlds.specs.declared.Transport.{Transport}

-- "12 for a unit not present, checked first": "Document 002 allows units 0 to 3", and the row may have fewer
unfoldable pub absent_in : ℕ → ℕ → Bool
absent_in n k = leb n k || leb transports k

-- a transport's unit, over a memory of so many bytes
abbrev pub unit_over : ℕ → Transport → Unit
unit_over memory t =
    record {
      tape = t.tape;
      registers = t.registers;
      panel = t.panel;
      attention = t.attention;
      characteristics = t.characteristics;
      lengths = record { memory = memory; blocks = t.blocks };
    }

-- a record taken out of the row, with what it shares; and what is put back
abbrev pub session_over : Coupler → Transport → Session
session_over c t = record { unit = unit_over c.memory t; objects = t.objects; used = c.used; journal = c.journal }

abbrev pub transport_of : Session → Transport
transport_of s =
    record {
      tape = s.unit.tape;
      registers = s.unit.registers;
      panel = s.unit.panel;
      attention = s.unit.attention;
      characteristics = s.unit.characteristics;
      blocks = s.unit.lengths.blocks;
      objects = s.objects;
    }

abbrev pub coupler_of : Session → Coupler
coupler_of s = record { used = s.used; memory = s.unit.lengths.memory; journal = s.journal }

-- the record of one that was never mounted
abbrev pub no_transport : Transport
no_transport =
    record {
      tape = record { position = 0; end = 0 };
      registers = record { pointer = 0; class = 0; rmr = false; nxm = false; nba = false; ssr = false };
      panel = record { online = false; locked = false; vck = false };
      attention = record { unit_owns = false; pending = false; release_ie = false };
      characteristics = record { address = 0; length = 0; eai = false; ess = false; enb = false };
      blocks = 0;
      objects = 0;
    }

abbrev pub is_mounted : Transport → Bool
is_mounted t = not (eqb t.blocks 0)

-- refusal 1 of what is shared: "used journal or a mounted length out of range"
unfoldable pub coupler_wrong : Coupler → Bool
coupler_wrong c = not (memory_right c.memory) || (ltb c.journal c.used || ltb journal_limit c.journal)

-- refusals 1, 2 and 4, for lengths in bytes: "Host stores belong to no unit", so no record of the row and no reel is asked
unfoldable pub coupler_checked : Coupler → ℕ → ℕ → Result ⊤ Refusal
coupler_checked c memory journal =
    pick (coupler_wrong c) (Err refusal.State)
    (pick (not (eqb memory c.memory)) (Err refusal.Memory)
    (pick (not (eqb journal c.journal)) (Err refusal.Journal) (Ok tt)))

-- a transport that is mounted and whose state 1 refuses, or whose reel is not of the mount's length
unfoldable pub state_seat_wrong : ℕ → Seat → Bool
state_seat_wrong memory s = is_mounted s.transport && state_wrong (unit_over memory s.transport)

unfoldable pub reel_seat_wrong : Seat → Bool
reel_seat_wrong s = is_mounted s.transport && not (eqb s.reel (block_bytes * s.transport.blocks))

-- refusals 1 to 4 of a step back, which is lent every reel: 1 and 3 for every transport of the row that is mounted
unfoldable pub row_checked : Coupler → List Seat → ℕ → ℕ → Result ⊤ Refusal
row_checked c row memory journal =
    pick (coupler_wrong c || list_any (state_seat_wrong c.memory) row) (Err refusal.State)
    (pick (not (eqb memory c.memory)) (Err refusal.Memory)
    (pick (list_any reel_seat_wrong row) (Err refusal.Reel)
    (pick (not (eqb journal c.journal)) (Err refusal.Journal) (Ok tt))))

abbrev pub no_seat : Seat
no_seat = record { transport = no_transport; reel = 0 }

-- transport k is in the row, and mounted
unfoldable pub standing_in : List Seat → ℕ → Bool
standing_in row k = not (absent_in (length row) k) && is_mounted (get_or row k no_seat).transport

-- refusals 1 to 4, then 6 and 8 of a step back whose newest entry names k: 8 where the used journal is too short for an entry, or where its transport is not present
-- or not mounted, so that the entry doesn't fit
unfoldable pub back_refusal : Coupler → List Seat → ℕ → ℕ → ℕ → Result ⊤ Refusal
back_refusal c row memory journal k =
    behind (row_checked c row memory journal) (λ r. Err r)
    (pick (eqb c.used 0) (Err refusal.Empty)
    (pick (ltb c.used entry_bare || not (eqb k transports || standing_in row k)) (Err refusal.Entry) (Ok tt)))
