-- What meeting an object gives: its kind, a record's length, and the position q beyond it.
use Rattle.std.specs.Prelude.{ℕ, length, Result, Ok}
use Rattle.tape.specs.Objects.{Object, record_of, mark, gap}
use Rattle.tape.specs.declared.Met.{Met}
use Rattle.tape.specs.declared.Met.TheVariants as met
use Rattle.tape.specs.declared.Damage.{Damage}

unfoldable pub met_as : Object → ℕ → Result Met Damage
met_as (record_of d) q = Ok (met.Record (length d) q)
met_as mark q = Ok (met.Mark q)
met_as gap q = Ok (met.Gap q)
