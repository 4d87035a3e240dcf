-- One turn of the search: what the object at p says of it.
use mathlib.Core.Bool.{Bool}
use mathlib.Core.List.{List}
use mathlib.Core.Path.{◌≡◌}
use Prim.Native.Nat.{ℕ, suc, ◌+◌, ◌-◌, ◌<◌, ◌≤◌}
use native.Mathlib.Omega.{arith}
use Rattle.tape.specs.Pass.{passed}
use Rattle.tape.specs.declared.Met.{Met}
use Rattle.moves.specs.Seeking.{sought_from, sought_from_under, sought_on}
use Rattle.moves.specs.declared.seeking.Sought.{Sought}
use Rattle.moves.specs.declared.seeking.Sought.TheVariants as sought-as
use Rattle.std.specs.Prelude.{Result, Ok}
use Rattle.tape.specs.declared.Damage.{Damage}

-- of e turns i are over
pub seek_turn : (i : ℕ) (s : List ℕ) (reverse : Bool) (p e : ℕ) {m : Result Met Damage} {r : Result Sought Damage} → i < e → m ≡ passed s reverse p e → r ≡ sought_on m p (λ q. sought_from (e - (i + 1)) s reverse q e) → r ≡ sought_from (e - i) s reverse p e
unfolding sought_from_under
seek_turn i s reverse p e h k l =
    let z : e - i ≡ suc (e - (i + 1)) = omega arith in
    rw (z, ← k) l

pub seek_done : (i : ℕ) (s : List ℕ) (reverse : Bool) (p e : ℕ) → e ≤ i → Ok (sought-as.Nothing p) ≡ sought_from (e - i) s reverse p e
unfolding sought_from_under
seek_done i s reverse p e h =
    let z : e - i ≡ 0 = omega arith in
    rw z
