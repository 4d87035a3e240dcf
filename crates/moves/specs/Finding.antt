-- What a search finds among the objects of a well formed reel: the next record or mark, with nothing but gaps before it, or nothing more.
use Rattle.std.specs.Prelude.{Bool, List, ◌≡◌, ℕ, length, Result, Ok}
use Rattle.lists.specs.Pick.{pick}
use Rattle.tape.specs.Objects.{Object, blocks_of, mark, record_of}
use Rattle.moves.specs.Between.{Between, Gaps, with_gaps}
use Rattle.moves.specs.declared.seeking.Sought.{Sought}
use Rattle.moves.specs.declared.seeking.Sought.TheVariants as sought-as
use Rattle.tape.specs.declared.Damage.{Damage}

-- "Gaps are passed over." (01, Commands); no case for a fault: the blocks below the end are whole objects
pub data Finds (os : List Object) (reverse : Bool) (p : ℕ) : Result Sought Damage → Type 0 where
  finds_record : (d : List ℕ) {gaps : List Object} {q : ℕ} → Gaps gaps → Between os reverse p q (with_gaps reverse gaps (record_of d)) → Finds os reverse p (Ok (sought-as.Record (length d) q))
  finds_mark : {gaps : List Object} {q : ℕ} → Gaps gaps → Between os reverse p q (with_gaps reverse gaps mark) → Finds os reverse p (Ok (sought-as.Mark q))
  -- block 0 in reverse, else the recorded end
  finds_nothing : {gaps : List Object} {q : ℕ} → Gaps gaps → Between os reverse p q gaps → q ≡ pick reverse 0 (blocks_of os) → Finds os reverse p (Ok (sought-as.Nothing q))
