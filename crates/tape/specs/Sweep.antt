-- "Mount reads every block below the end it is given" (01, Calls): object after object from block 0, the first fault named.
use Rattle.std.specs.Prelude.{List, false, ℕ, suc, Result, Ok, Err}
use Rattle.tape.specs.Numbers.{record_limit}
use Rattle.tape.specs.Pass.{passed_under}
use Rattle.tape.specs.declared.Met.{Met}
use Rattle.tape.specs.declared.Met.TheVariants as met
use Rattle.tape.specs.declared.Damage.{Damage}

-- no fault, or the first one
abbrev pub Swept : Type 0
Swept = Result (Unit {0}) Damage

-- what one object says of the sweep; `onward` goes on from the position beyond it
unfoldable pub swept_on : Result Met Damage → (ℕ → Swept) → Swept
swept_on (Ok (met.Record n q)) onward = onward q
swept_on (Ok (met.Mark q)) onward = onward q
swept_on (Ok (met.Gap q)) onward = onward q
swept_on (Ok met.Nothing) onward = Ok tt
swept_on (Err d) onward = Err d

-- under any record limit
module _ (limit : ℕ) where
  -- at most `turns` objects from position p on
  unfoldable pub swept_from_under : ℕ → List ℕ → ℕ → ℕ → Swept
  swept_from_under ℕ.zero s p e = Ok tt
  swept_from_under (suc turns) s p e = swept_on (passed_under limit s false p e) (λ q. swept_from_under turns s q e)

  -- each object takes a block or more, so e objects are enough (law `swept_under`)
  unfoldable pub swept_below_under : List ℕ → ℕ → Swept
  swept_below_under s e = swept_from_under e s 0 e

-- and under this unit's own
abbrev pub swept_from : ℕ → List ℕ → ℕ → ℕ → Swept
swept_from = swept_from_under record_limit

abbrev pub swept_below : List ℕ → ℕ → Swept
swept_below = swept_below_under record_limit
