-- What a line about the table comes to, with the bytes b that it gives, where the table's buffer is tb; and the buffer after it.
use Rattle.std.specs.Prelude.{Result, List, ℕ, ltb, length}
use Rattle.std.proofs.lemmas.List.Edits.{sets}
use Rattle.lists.specs.Pick.{pick}
use Rattle.script.specs.Fills.{wiped}
use Rattle.script.specs.declared.Fault.{Fault}
use Rattle.script.specs.declared.Fault.TheVariants as fault
use Rattle.lines.specs.declared.Table.{Table}
use Rattle.lines.specs.declared.Table.TheVariants as table
use Rattle.desk.specs.declared.desk.Desk.{Desk}
use Rattle.desk.specs.declared.Turn.{Turn}
use Rattle.desk.specs.Arranges.{no_room}
use Rattle.desk.specs.Builds.{if_taken, poke_answer}
use Rattle.desk.specs.Desks.{front, with_table}
use Rattle.desk.specs.Turns.{settled, still, with_sizes}

-- a table of n bytes, all zero, if there is room for it
unfoldable pub given_turn : Desk → ℕ → List ℕ → Result Turn Fault
given_turn d n tb = pick (ltb (length tb) n) (no_room) (still (with_sizes d (with_table d.sizes n)))

unfoldable pub given_bytes : Desk → ℕ → List ℕ → List ℕ
given_bytes d n tb = pick (ltb (length tb) n) tb (wiped tb 0 d.sizes.table)

-- bytes at a place of the table, within its size
abbrev pub table_answer : Desk → ℕ → List ℕ → List ℕ → Result ℕ Fault
table_answer d at b tb = poke_answer (length (front d.sizes.table tb)) at (length b) d.cursor fault.OutsideTable

unfoldable pub poked_turn : Desk → ℕ → List ℕ → List ℕ → Result Turn Fault
poked_turn d at b tb = settled d (table_answer d at b tb)

unfoldable pub poked_bytes : Desk → ℕ → List ℕ → List ℕ → List ℕ
poked_bytes d at b tb = sets tb 0 (if_taken (table_answer d at b tb) (sets (front d.sizes.table tb) at b) (front d.sizes.table tb))

unfoldable pub tabled_turn : Desk → Table → List ℕ → List ℕ → Result Turn Fault
tabled_turn d (table.Index n) b tb = given_turn d n tb
tabled_turn d (table.Poke at) b tb = poked_turn d at b tb

unfoldable pub tabled_bytes : Desk → Table → List ℕ → List ℕ → List ℕ
tabled_bytes d (table.Index n) b tb = given_bytes d n tb
tabled_bytes d (table.Poke at) b tb = poked_bytes d at b tb
