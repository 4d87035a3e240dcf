-- What a line that sets the desk up comes to, where the buffers are so long; and the lengths of what it clears.
use Rattle.std.specs.Prelude.{ℕ, Option, None, Some, Result, Ok, Err, set}
use Rattle.lists.specs.Pick.{pick}
use Rattle.script.specs.declared.Fault.{Fault}
use Rattle.script.specs.declared.Fault.TheVariants as fault
use Rattle.lines.specs.declared.Cuts.{Cuts}
use Rattle.lines.specs.declared.Sizes.{Sizes}
use Rattle.lines.specs.Arranging.{number_of}
use Rattle.lines.specs.declared.Arrange.{Arrange}
use Rattle.lines.specs.declared.Field.{Field}
use Rattle.lines.specs.declared.Arrange.TheVariants as arrange
use Rattle.results.specs.Fields.{fields_of, session_with}
use Rattle.desk.specs.declared.desk.Desk.{Desk}
use Rattle.desk.specs.declared.Said.TheVariants as said
use Rattle.desk.specs.declared.Turn.{Turn}
use Rattle.desk.specs.Desks.{cut_sizes, fresh_at, no_sizes, sizes_beyond}
use Rattle.desk.specs.Turns.{still, with_sizes}

-- more than the program has room for
abbrev pub no_room : Result Turn Fault
no_room = Err fault.BeyondBuffers

-- a case starts, and its line is printed
abbrev pub started_case : Desk → Result Turn Fault
started_case d = Ok (record { desk = fresh_at d.line; said = said.Itself })

-- the sizes of the case, and the lengths that its calls are handed, the table's with them or not
unfoldable pub resized : Desk → Sizes → Sizes → Result Turn Fault
resized d s room = pick (sizes_beyond s room) no_room (still (with_sizes d s))

unfoldable pub cut_to : Desk → Cuts → Sizes → Result Turn Fault
cut_to d c room = pick (sizes_beyond (cut_sizes c 0) room) no_room (still (record d { cuts = Some c }))

abbrev pub uncut_of : Desk → Result Turn Fault
uncut_of d = still (record d { cuts = None })

-- a field of the session made up, unless no field has the number
unfoldable pub set_to : Desk → Option Field → ℕ → Result Turn Fault
set_to d None v = no_room
set_to d (Some f) v = still (record d { session = session_with (set (fields_of d.session) (number_of f) v) })

unfoldable pub arranged : Desk → Arrange → Sizes → Result Turn Fault
arranged d arrange.Case room = started_case d
arranged d (arrange.Sizes s) room = resized d s room
arranged d (arrange.Cut c) room = cut_to d c room
arranged d arrange.Uncut room = uncut_of d
arranged d (arrange.Set f v) room = set_to d f v

-- a case, and new sizes that there is room for, clear the bytes within the old sizes; any other line clears none
unfoldable pub cleared_unless : Desk → Sizes → Sizes → Sizes
cleared_unless d s room = pick (sizes_beyond s room) no_sizes d.sizes

unfoldable pub cleared_by : Desk → Arrange → Sizes → Sizes
cleared_by d arrange.Case room = d.sizes
cleared_by d (arrange.Sizes s) room = cleared_unless d s room
cleared_by d (arrange.Cut c) room = no_sizes
cleared_by d arrange.Uncut room = no_sizes
cleared_by d (arrange.Set f v) room = no_sizes
