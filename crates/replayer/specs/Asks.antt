-- The step that a line asks for, with the bytes b that the line gives.
use Rattle.std.specs.Prelude.{List, ℕ}
use Rattle.lines.specs.declared.Ask as lines
use Rattle.lines.specs.declared.Ask.TheVariants as line
use Rattle.unit.specs.Asks.{Ask}

unfoldable pub ask_of : lines.Ask → List ℕ → Ask
ask_of (line.WriteTsdb w) b = Ask.write_tsdb w
ask_of line.WriteTssr b = Ask.write_tssr
ask_of (line.Operate a) b = Ask.operate a
ask_of (line.HostStore at) b = Ask.host_store at b
ask_of line.Advance b = Ask.advance
