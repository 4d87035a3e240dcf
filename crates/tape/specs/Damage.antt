-- "the first at fault is named" (01, under the refusals): its number, and what is wrong with it (02, [4])
use Rattle.std.specs.Prelude.{ℕ}
use Rattle.tape.specs.declared.BlockFault.{BlockFault}
use Rattle.tape.specs.declared.Damage.{Damage}

abbrev pub damage : BlockFault → ℕ → Damage
damage why k = record { fault = why; block = k }
