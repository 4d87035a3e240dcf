-- What a line comes to that makes no call: its turn, or why it can't be taken.
use Rattle.std.specs.Prelude.{ℕ, Result, Ok, Err}
use Rattle.script.specs.declared.Fault.{Fault}
use Rattle.lines.specs.declared.Sizes.{Sizes}
use Rattle.desk.specs.declared.desk.Desk.{Desk}
use Rattle.desk.specs.declared.Said.TheVariants as said
use Rattle.desk.specs.declared.Turn.{Turn}

-- a line that prints nothing
abbrev pub still : Desk → Result Turn Fault
still d = Ok (record { desk = d; said = said.Nothing })

-- the desk with its cursor at p
abbrev pub with_cursor : Desk → ℕ → Desk
with_cursor d p = record d { cursor = p }

-- the desk with other sizes
abbrev pub with_sizes : Desk → Sizes → Desk
with_sizes d s = record d { sizes = s }

-- a line that answers a cursor, or a fault
unfoldable pub settled : Desk → Result ℕ Fault → Result Turn Fault
settled d (Ok p) = still (with_cursor d p)
settled d (Err f) = Err f
