-- One turn of the sweep: what the object at p says of it.
use mathlib.Core.Bool.{false}
use mathlib.Core.List.{List}
use mathlib.Core.Path.{◌≡◌}
use Prim.Native.Nat.{ℕ, suc, ◌+◌, ◌-◌, ◌<◌, ◌≤◌}
use native.Mathlib.Omega.{arith}
use Rattle.std.specs.Prelude.{Result, Ok}
use Rattle.tape.specs.Pass.{passed}
use Rattle.tape.specs.Sweep.{Swept, swept_from, swept_from_under, swept_on}
use Rattle.tape.specs.declared.Damage.{Damage}
use Rattle.tape.specs.declared.Met.{Met}

-- of e turns i are over
pub sweep_turn : (i : ℕ) (s : List ℕ) (p e : ℕ) {m : Result Met Damage} {r : Swept} → i < e → m ≡ passed s false p e → r ≡ swept_on m (λ q. swept_from (e - (i + 1)) s q e) → r ≡ swept_from (e - i) s p e
unfolding swept_from_under
sweep_turn i s p e h k l =
    let z : e - i ≡ suc (e - (i + 1)) = omega arith in
    rw (z, ← k) l

pub sweep_done : (i : ℕ) (s : List ℕ) (p e : ℕ) → e ≤ i → Ok tt ≡ swept_from (e - i) s p e
unfolding swept_from_under
sweep_done i s p e h =
    let z : e - i ≡ 0 = omega arith in
    rw z
