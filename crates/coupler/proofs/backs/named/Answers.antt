-- `named` meets its contract: the number in the newest entry's head.
use mathlib.Core.Path.{ap}
use Rattle.entries.specs.declared.Entry.{Entry}
use native.Mathlib.Omega.{arith}
use Rattle.coupler.proofs.backs.named.Goals as goal

pub newest_entry-e-requires : goal.newest_entry-e-requires
newest_entry-e-requires c = (omega (arith, c.requires.0), c.requires.1)

pub returns : goal.returns
returns c = ap (λ (e : Entry). e.transport) c.newest_entry-e.ensures
