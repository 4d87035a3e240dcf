-- The registers as they read. (01, "Registers")
use Rattle.std.specs.Prelude.{ℕ}
use Rattle.state.specs.Readings.{tsba_of, tssr_of}
use Rattle.state.specs.declared.Unit.{Unit}
use Rattle.unit.specs.declared.registers.Register.{Register}
use Rattle.unit.specs.declared.registers.Register.TheVariants as register

unfoldable pub register_word : Unit → Register → ℕ
register_word u register.Tsba = tsba_of u
register_word u register.Tssr = tssr_of u
