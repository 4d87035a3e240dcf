-- "Writing stores only the new object's blocks": what of the reel stays. (01, "The reel")
use Rattle.std.specs.Prelude.{List, ◌≡◌, ℕ, ◌*◌, ◌<◌, get_or, Result, Ok, Err}
use Rattle.lists.specs.Pick.{Always}
use Rattle.tape.specs.Numbers.{block_bytes}
use Rattle.moves.specs.declared.seeking.Sought.{Sought}
use Rattle.moves.specs.declared.seeking.Sought.TheVariants as sought-as
use Rattle.motions.specs.declared.parts.Ending.{Ending}
use Rattle.storing.specs.Stored.{laid_on}
use Rattle.tape.specs.declared.Damage.{Damage}

-- the reel s, with memory m, as this end lays it: the blocks below q are as they were
abbrev pub KeptBelow : List ℕ → List ℕ → ℕ → Ending → Type 0
KeptBelow s m q x = (j : ℕ) → j < block_bytes * q → get_or (laid_on s m x.laid) j 0 ≡ get_or s j 0

-- "space reverse over gaps and one record or mark": a search with this answer stopped at q, if it found anything
abbrev pub StopsAt : ℕ → Result Sought Damage → Type 0
StopsAt q (Ok (sought-as.Record n q')) = q ≡ q'
StopsAt q (Ok (sought-as.Mark q')) = q ≡ q'
StopsAt q (Ok (sought-as.Nothing q')) = Always
StopsAt q (Err d) = Always
