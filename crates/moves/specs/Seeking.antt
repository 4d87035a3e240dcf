-- "Gaps are passed over." (01, Commands): the next record or mark from position p, either way.
use Rattle.std.specs.Prelude.{Bool, List, ℕ, suc, Result, Ok, Err}
use Rattle.tape.specs.Numbers.{record_limit}
use Rattle.tape.specs.Pass.{passed_under}
use Rattle.tape.specs.declared.Met.{Met}
use Rattle.tape.specs.declared.Met.TheVariants as met
use Rattle.moves.specs.declared.seeking.Sought.{Sought}
use Rattle.moves.specs.declared.seeking.Sought.TheVariants as sought-as
use Rattle.tape.specs.declared.Damage.{Damage}

-- what meeting an object at p says of the search; `onward` goes on behind a gap
unfoldable pub sought_on : Result Met Damage → ℕ → (ℕ → Result Sought Damage) → Result Sought Damage
sought_on (Ok (met.Record n q)) p onward = Ok (sought-as.Record n q)
sought_on (Ok (met.Mark q)) p onward = Ok (sought-as.Mark q)
sought_on (Ok (met.Gap q)) p onward = onward q
sought_on (Ok met.Nothing) p onward = Ok (sought-as.Nothing p)
sought_on (Err d) p onward = Err d

-- under any record limit
module _ (limit : ℕ) where
  -- at most `turns` objects
  unfoldable pub sought_from_under : ℕ → List ℕ → Bool → ℕ → ℕ → Result Sought Damage
  sought_from_under ℕ.zero s reverse p e = Ok (sought-as.Nothing p)
  sought_from_under (suc turns) s reverse p e = sought_on (passed_under limit s reverse p e) p (λ q. sought_from_under turns s reverse q e)

  -- each gap takes a block, so from a position up to e, e turns reach the end either way
  unfoldable pub sought_under : List ℕ → Bool → ℕ → ℕ → Result Sought Damage
  sought_under s reverse p e = sought_from_under e s reverse p e

-- and under this unit's own
abbrev pub sought_from : ℕ → List ℕ → Bool → ℕ → ℕ → Result Sought Damage
sought_from = sought_from_under record_limit

abbrev pub sought : List ℕ → Bool → ℕ → ℕ → Result Sought Damage
sought = sought_under record_limit
