-- "A reel is well formed when the blocks below the end are whole objects" (01, "The reel"); the position is 0 or just after one of them.
use Rattle.std.specs.Prelude.{List, ℕ}
use Rattle.tape.specs.Objects.{Holds, Object}
use Rattle.state.specs.declared.Tape.{Tape}
use Rattle.moves.specs.Between.{Bound}

-- the tape t stands well on the reel s
abbrev pub Formed : List ℕ → Tape → Type 0
Formed s t = (os : List Object) × Holds s t.end os × Bound os t.position
