-- A plan carried out from two cores that differ in memory alone, where both memories hold the data that it lays.
use mathlib.Core.List.{List}
use mathlib.Core.Path.{◌≡◌, refl, sym, subst, ◌∙◌}
use Prim.Native.Nat.{ℕ}
use lib.ListN.{get_or, length}
use Rattle.commands.specs.declared.plans.Plan.{Plan}
use Rattle.storing.specs.Stored.{laid_objects, laid_on, reel_after}
use Rattle.storing.proofs.Lengths.{length_memory}
use Rattle.unit.specs.Asks.{Ask}
use Rattle.unit.specs.Cores.{Core}
use Rattle.unit.specs.Steps.{Step, carried, step_of, table_after}
use Rattle.unit.specs.Stores.{StepBytes, bytes_of, plan_bytes}
use Rattle.isolation.specs.Alike.{SameButMemory, StepsAlike}
use Rattle.isolation.proofs.Storing.{memory_alike}

-- a core over another memory
abbrev pub over : Core → List ℕ → Core
over c m = record { unit = c.unit; objects = c.objects; memory = m; reel = c.reel; table = c.table }

pub core_is : (c c' : Core) → SameButMemory c c' → over c c'.memory ≡ c'
core_is c c' e = rw (e.unit, e.objects, e.reel, e.table)

-- what is the same of two steps, with what they store
pub record Alike (c c' : Core) (x x' : Step) (b b' : StepBytes) : Type 0 where
  pub answer : x.answer ≡ x'.answer
  pub touched : x.touched ≡ x'.touched
  pub bytes : b ≡ b'
  pub after : SameButMemory x.after x'.after
  pub memory : (j : ℕ) → get_or c.memory j 0 ≡ get_or c'.memory j 0 → get_or x.after.memory j 0 ≡ get_or x'.after.memory j 0

-- so it is enough to look at one core over two memories
pub steps_over : (a : Ask) (c c' : Core) → SameButMemory c c' → Alike c (over c c'.memory) (step_of a c) (step_of a (over c c'.memory)) (bytes_of a c) (bytes_of a (over c c'.memory)) → StepsAlike a c c'
steps_over a c c' e x =
    subst (StepsAlike a c) (core_is c c' e)
    (record { answer = x.answer; touched = x.touched; bytes = x.bytes; after = x.after; memory = x.memory })

module _ (c : Core) (m' : List ℕ) (long : length c.memory ≡ length m') (q : Plan) (o : laid_objects c.memory q.laid ≡ laid_objects m' q.laid) where
  reel_alike : reel_after q c.memory c.reel ≡ reel_after q m' c.reel
  unfolding reel_after laid_on
  reel_alike = rw o

  table_alike : table_after c q.laid ≡ table_after (over c m') q.laid
  unfolding table_after
  table_alike = rw o

  bytes_alike : plan_bytes c q ≡ plan_bytes (over c m') q
  unfolding plan_bytes
  bytes_alike = rw (o, reel_alike)

  pub carried_alike : Alike c (over c m') (carried c q) (carried (over c m') q) (plan_bytes c q) (plan_bytes (over c m') q)
  unfolding carried
  carried_alike =
      record {
        answer = refl;
        touched = refl;
        bytes = bytes_alike;
        after =
            record {
              unit = refl;
              objects = refl;
              reel = reel_alike;
              table = table_alike;
              long = length_memory q c.memory c.reel ∙ long ∙ sym (length_memory q m' c.reel);
            };
        memory = λ j h. memory_alike q c.memory m' c.reel long reel_alike j h;
      }
