-- Where a step that is done stores a byte, the memories are the same after it, whatever stood there: the other half of `memory` in `StepsAlike`.
use mathlib.Core.Bool.{Bool, false}
use mathlib.Core.List.{List}
use mathlib.Core.Path.{◌≡◌, sym, subst, ◌∙◌}
use Prim.Native.Nat.{ℕ, ◌+◌, ◌<◌}
use native.Mathlib.Omega.{arith}
use lib.ListN.{get_or, length}
use Rattle.std.specs.Prelude.{Ok}
use Rattle.lists.specs.Places.{place, placed}
use Rattle.lists.proofs.Placed.{length_placed}
use Rattle.commands.specs.declared.plans.Done.TheVariants as answer
use Rattle.touched.specs.declared.Touched.{Touched}
use Rattle.unit.specs.Asks.{Ask}
use Rattle.unit.specs.Cores.{Admitted, Core}
use Rattle.unit.specs.Steps.{step_of}
use Rattle.unit.specs.Stores.{StepBytes, bytes_of}
use Rattle.unit.proofs.Stored.{stores}
use Rattle.isolation.specs.Alike.{SameButMemory, StepsAlike}
use Rattle.isolation.specs.Reads.{TouchesAt, touches_data, touches_message}
use Rattle.isolation.proofs.Carrying.{core_is}
use Rattle.isolation.proofs.Placing.{placed_alike}

-- memory m with the bytes b at the places t, the message over the data
abbrev filled : Touched → StepBytes → List ℕ → List ℕ
filled t b m = placed false (placed t.swb m t.data_at b.data_stored) t.message_at b.message_stored

filled_alike : (t : Touched) (b : StepBytes) (m m' : List ℕ) → length m ≡ length m' → length b.data_stored ≡ t.data_length → length b.message_stored ≡ t.message_length → (j : ℕ) → TouchesAt t j → get_or (filled t b m) j 0 ≡ get_or (filled t b m') j 0
filled_alike t b m m' long d n j x =
    placed_alike false (placed t.swb m t.data_at b.data_stored) (placed t.swb m' t.data_at b.data_stored) t.message_at b.message_stored j
    (length_placed t.swb m t.data_at b.data_stored ∙ long ∙ sym (length_placed t.swb m' t.data_at b.data_stored))
    (λ g. placed_alike t.swb m m' t.data_at b.data_stored j long (λ f. absurd (on_one x f g)))
  where
    on_one : TouchesAt t j → ((i : ℕ) → i < length b.data_stored → j ≡ place t.swb (t.data_at + i) → ⊥) → ((i : ℕ) → i < length b.message_stored → j ≡ t.message_at + i → ⊥) → ⊥
    on_one (touches_data {i} h e) f g = f i (omega arith) e
    on_one (touches_message {i} h e) f g = g i (omega arith) e

pub admitted_alike : (c c' : Core) → SameButMemory c c' → Admitted c → Admitted c'
admitted_alike c c' e a = subst Admitted (core_is c c' e) (record { legal = a.legal; memory_is = sym e.long ∙ a.memory_is; reel_is = a.reel_is })

pub stored_alike : (a : Ask) (c c' : Core) → Admitted c → SameButMemory c c' → StepsAlike a c c' → (i : Bool) → (step_of a c).answer ≡ Ok (answer.Step i) → (j : ℕ) → TouchesAt (step_of a c).touched j → get_or (step_of a c).after.memory j 0 ≡ get_or (step_of a c').after.memory j 0
stored_alike a c c' w e x i y j t =
    let s = stores a c i w y in
    let s' = stores a c' i (admitted_alike c c' e w) (sym x.answer ∙ y) in
    rw (s.memory, s'.memory, ← x.touched, ← x.bytes) (filled_alike (step_of a c).touched (bytes_of a c) c.memory c'.memory e.long s.data_long s.message_long j t)
