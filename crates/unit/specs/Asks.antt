-- "A step is a TSDB or TSSR write, host store, operator act or advance" (01, Calls): what can be asked of the unit.
use Rattle.std.specs.Prelude.{List, ℕ, ◌<◌}
use Rattle.lists.specs.Pick.{Always}
use Rattle.state.specs.declared.act.Act.{Act}

pub data Ask : Type 0 where
  write_tsdb : ℕ → Ask
  write_tssr : Ask
  operate : Act → Ask
  host_store : ℕ → List ℕ → Ask
  advance : Ask

-- a word of TSDB has 16 bits
abbrev pub Asked : Ask → Type 0
Asked (write_tsdb word) = word < 65536
Asked write_tssr = Always
Asked (operate a) = Always
Asked (host_store place bytes) = Always
Asked advance = Always
