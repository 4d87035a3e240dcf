-- `lay_record` meets its contract. So far the first i pieces are laid, and nothing else has changed.
use mathlib.Core.Path.{◌≡◌}
use Prim.Native.Nat.{◌*◌}
use lib.Seq.{sets}
use Rattle.lists.specs.Places.{gathered}
use Rattle.tape.specs.Numbers.{block_bytes}
use Rattle.tape.specs.Objects.{pieces_to}
use Rattle.reel.proofs.lay.lay_record.Given as goal

abbrev pub invariant-loop-i : goal.invariant-loop-i
invariant-loop-i l = l.reel ≡ sets l.initial.reel (block_bytes * l.p) (pieces_to (gathered l.swb l.mem l.a l.n) l.i)
