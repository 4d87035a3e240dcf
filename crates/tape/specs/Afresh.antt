-- The objects of a reel, worked out afresh: those that passing forward from block 0 meets, below the recorded end. On a well formed reel they are
-- the objects that it holds, and there is no other such list (laws `objects_are`, `one_list`).
use Rattle.std.specs.Prelude.{false, List, [], ◌∷◌, ℕ, suc, Result, Ok, Err}
use Rattle.tape.specs.Bytes.{record_bytes}
use Rattle.tape.specs.Objects.{Object, gap, mark, record_of}
use Rattle.tape.specs.Pass.{passed}
use Rattle.tape.specs.declared.Met.{Met}
use Rattle.tape.specs.declared.Met.TheVariants as met
use Rattle.tape.specs.declared.Damage.{Damage}

-- what was met at block p of s, and then the objects that `onward` finds from the position beyond it
unfoldable pub met_then : List ℕ → ℕ → Result Met Damage → (ℕ → List Object) → List Object
met_then s p (Ok (met.Record n q)) onward = record_of (record_bytes s p n) ∷ onward q
met_then s p (Ok (met.Mark q)) onward = mark ∷ onward q
met_then s p (Ok (met.Gap q)) onward = gap ∷ onward q
met_then s p (Ok met.Nothing) onward = []
met_then s p (Err d) onward = []

-- at most `turns` objects from block p on
unfoldable pub objects_from : ℕ → List ℕ → ℕ → ℕ → List Object
objects_from ℕ.zero s p e = []
objects_from (suc turns) s p e = met_then s p (passed s false p e) (λ q. objects_from turns s q e)

-- each object takes a block or more, so e are all
unfoldable pub objects_in : List ℕ → ℕ → List Object
objects_in s e = objects_from e s 0 e
