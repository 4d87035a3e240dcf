-- Lines about the table beside the reel: what each comes to.
use Rattle.std.specs.Prelude.{List, ℕ, Result, Ok}
use Rattle.script.specs.declared.Fault.{Fault}
use Rattle.lines.specs.declared.Given.TheVariants as given
use Rattle.lines.specs.declared.Line.{Line}
use Rattle.lines.specs.declared.Table.TheVariants as table
use Rattle.lines.specs.Makes.{number_at, on_value, tables_line}

-- `index LEN`
unfoldable pub index_line : List ℕ → Result Line Fault
index_line t = on_value (number_at t 1) (λ n. Ok (tables_line (table.Index n) given.Nothing))

-- `poketable OFFSET HEX`: word 2 gives the bytes
unfoldable pub poke_table_line : List ℕ → Result Line Fault
poke_table_line t = on_value (number_at t 1) (λ at. Ok (tables_line (table.Poke at) (given.Word 2)))
