-- The desk as a run and a case start it, the lengths that the calls are handed, and the next line.
use Rattle.std.specs.Prelude.{Bool, false, ◌||◌, Option, None, Some, unwrap_or, List, ℕ, ◌+◌, min, ltb, length, take}
use Rattle.lists.specs.Pick.{pick}
use Rattle.state.specs.declared.Unit.{Unit}
use Rattle.worlds.specs.declared.Session.{Session}
use Rattle.lines.specs.declared.Cuts.{Cuts}
use Rattle.lines.specs.declared.Sizes.{Sizes}
use Rattle.desk.specs.declared.desk.Desk.{Desk}

abbrev pub no_sizes : Sizes
no_sizes = record { memory = 0; reel = 0; table = 0; journal = 0 }

-- the lengths of the buffers
abbrev pub room_of : List ℕ → List ℕ → List ℕ → List ℕ → Sizes
room_of m r tb j = record { memory = length m; reel = length r; table = length tb; journal = length j }

-- n bytes of a buffer, or all that it has
abbrev pub front : ℕ → List ℕ → List ℕ
front n l = take (min n (length l)) l

-- every number 0 and every flag false
abbrev pub no_unit : Unit
no_unit =
    record {
      tape = record { position = 0; end = 0 };
      registers = record { pointer = 0; class = 0; rmr = false; nxm = false; nba = false; ssr = false };
      panel = record { online = false; locked = false; vck = false };
      attention = record { unit_owns = false; pending = false; release_ie = false };
      characteristics = record { address = 0; length = 0; eai = false; ess = false; enb = false };
      lengths = record { memory = 0; blocks = 0 };
    }

abbrev pub no_session : Session
no_session = record { unit = no_unit; objects = 0; used = 0; journal = 0 }

-- nothing mounted, no buffers, the cursor at block 0, before line n
abbrev pub fresh_at : ℕ → Desk
fresh_at n = record { session = no_session; sizes = no_sizes; cuts = None; cursor = 0; line = n }

-- sizes with a table of n bytes
abbrev pub with_table : Sizes → ℕ → Sizes
with_table s n = record s { table = n }

-- the lengths that cuts say; where they say none for the table, it has n bytes
abbrev pub cut_sizes : Cuts → ℕ → Sizes
cut_sizes c n = record { memory = c.memory; reel = c.reel; table = unwrap_or c.table n; journal = c.journal }

-- the lengths that the calls are handed; where the cuts say none for the table, it is handed as it is
unfoldable pub handed_by : Option Cuts → Sizes → Sizes
handed_by None s = s
handed_by (Some c) s = cut_sizes c s.table

abbrev pub handed_of : Desk → Sizes
handed_of d = handed_by d.cuts d.sizes

-- whether one of the sizes is more than there is room for
unfoldable pub sizes_beyond : Sizes → Sizes → Bool
sizes_beyond s room =
    ltb room.memory s.memory || ltb room.reel s.reel || ltb room.table s.table || ltb room.journal s.journal

-- lines are counted up to a number that no script reaches
abbrev pub next_line : Desk → Desk
next_line d = record d { line = pick (ltb d.line 1000000000000) (d.line + 1) d.line }
