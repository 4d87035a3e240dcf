-- What holds of every end of a stage, and of all that goes on from its record, holds of the two together.
use Prim.Native.Nat.{ℕ}
use Rattle.motions.specs.Reads.{on_record}
use Rattle.motions.specs.declared.parts.Ending.{Ending}
use Rattle.motions.specs.declared.reads.Stage.{Stage}
use Rattle.motions.specs.declared.reads.Stage.TheVariants as stage
use Rattle.std.specs.Prelude.{Result, Ok, Err}
use Rattle.tape.specs.declared.Damage.{Damage}

-- R of the record that a stage found, or P of the end that it came to
abbrev pub StageHas : (Result Ending Damage → Type 0) → (ℕ → ℕ → Type 0) → Result Stage Damage → Type 0
StageHas P R (Ok (stage.Record n q)) = R n q
StageHas P R (Ok (stage.Over x)) = P (Ok x)
StageHas P R (Err d) = P (Err d)

pub on_record_lem : (P : Result Ending Damage → Type 0) (R : ℕ → ℕ → Type 0) (x : Result Stage Damage) (f : ℕ → ℕ → Result Ending Damage) → StageHas P R x → ((n q : ℕ) → R n q → P (f n q)) → P (on_record x f)
unfolding on_record
on_record_lem P R (Ok (stage.Record n q)) f h on = on n q h
on_record_lem P R (Ok (stage.Over x)) f h on = h
on_record_lem P R (Err d) f h on = h
