-- A session comes back from its numbers, whole: setting one of them leaves the others.
use mathlib.Core.Path.{◌≡◌, refl}
use mathlib.Core.Bool.{Bool, true, false, not}
use Prim.Native.Nat.{ℕ, ◌<◌}
use native.Mathlib.Omega.{arith}
use lib.Dec.{eqb}
use Rattle.std.specs.Int.{from_bool}
use Rattle.worlds.specs.declared.Session.{Session}
use Rattle.results.specs.Fields.{bit_of, fields_of, low_of, session_with, unit_with}

pub low_same : (x : ℕ) → x < 4294967296 → low_of x ≡ x
low_same x h = omega arith

pub told : (b : Bool) → not (eqb (bit_of b) 0) ≡ b
told true = refl
told false = refl

-- a flag as the number that it converts to
pub bit_is : (b : Bool) → from_bool b ≡ bit_of b
bit_is true = refl
bit_is false = refl

pub session_back : (s : Session) → s.unit.characteristics.address < 4294967296 → s.unit.characteristics.length < 4294967296 → session_with (fields_of s) ≡ s
unfolding fields_of session_with unit_with
session_back s h g =
    let r = s.unit.registers in
    let p = s.unit.panel in
    let a = s.unit.attention in
    let k = s.unit.characteristics in
    rw (
      low_same k.address h,
      low_same k.length g,
      told r.rmr,
      told r.nxm,
      told r.nba,
      told r.ssr,
      told p.online,
      told p.locked,
      told p.vck,
      told a.unit_owns,
      told a.pending,
      told a.release_ie,
      told k.eai,
      told k.ess,
      told k.enb,
    )
