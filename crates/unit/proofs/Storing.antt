-- What an advance from a legal state plans can be stored.
use mathlib.Core.List.{List}
use mathlib.Core.Path.{◌≡◌}
use Prim.Native.Nat.{ℕ, ◌*◌}
use native.Mathlib.Omega.{arith}
use lib.ListN.{length}
use Rattle.tape.specs.Numbers.{block_bytes}
use Rattle.state.specs.Legal.{Legal}
use Rattle.state.specs.declared.Unit.{Unit}
use Rattle.commands.specs.declared.plans.Plan.{Plan}
use Rattle.storing.specs.Stored.{Storable}
use Rattle.advance.specs.Steps.{advanced}
use Rattle.advance.proofs.Planned.{SoundPlan, advanced_sound}

sound_storable : (u : Unit) → Legal u → (p : Plan) → SoundPlan u p → Storable p u.lengths.memory (block_bytes * u.lengths.blocks)
sound_storable u l p f =
    record {
      laid = record { room = omega (arith, f.laid.room); source = f.laid.source; even = l.even };
      moved = record { room = f.moved.room; target = f.moved.target; even = l.even };
      message = λ e. omega (arith, (f.message e).1, (f.message e).2);
    }

pub advanced_storable : (u : Unit) (m s : List ℕ) → Legal u → length m ≡ u.lengths.memory → length s ≡ block_bytes * u.lengths.blocks → Storable (advanced u m s) (length m) (length s)
advanced_storable u m s l e f = rw (e, f) (sound_storable u l (advanced u m s) (advanced_sound u m s l e))
