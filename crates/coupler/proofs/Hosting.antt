-- A host store over what is shared: its refusals, and where it is handed on to the step.
use mathlib.Core.Path.{◌≡◌, refl, sym, ◌∙◌}
use mathlib.Core.Bool.{Bool, true, false}
use mathlib.Core.List.{List, []}
use Prim.Native.Nat.{ℕ, ◌+◌}
use borrow.Author.Tests.{ltb-false}
use lib.Dec.{ltb}
use lib.ListN.{length}
use Rattle.state.proofs.Tests.{neither}
use Rattle.std.specs.Prelude.{Ok, Err}
use Rattle.state.specs.declared.refusal.Refusal.{Refusal}
use Rattle.state.specs.declared.refusal.Refusal.TheVariants as refusal
use Rattle.commands.specs.declared.plans.Done.TheVariants as answer
use Rattle.unit.specs.Steps.{host_limit, step_of, store_wrong, stored}
use Rattle.entries.specs.Entries.{transports}
use Rattle.worlds.specs.Worlds.{Leaves}
use Rattle.worlds.specs.Calls.{taken_as}
use Rattle.worlds.specs.Coupled.{host_on, shared_outcome, world_of_none}
use Rattle.worlds.specs.Rows.{coupler_checked, no_transport, session_over}
use Rattle.worlds.specs.declared.Coupler.{Coupler}
use Rattle.worlds.specs.Worlds.{Outcome}
use Rattle.steps.specs.Readiness.{StoreReady}
use Rattle.steps.proofs.Called.{store_stops, store_takes}
use Rattle.steps.proofs.Outs.{left_alone}

module _ (c : Coupler) (m j : List ℕ) (place : ℕ) (bytes : List ℕ) where
  pub host_stops : (n : Refusal) → coupler_checked c (length m) (length j) ≡ Err n → Leaves (host_on (world_of_none c m j) (length j) place bytes) j (shared_outcome c (Err n)) m [] [] j
  unfolding host_on
  host_stops n e = rw e (left_alone transports (session_over c no_transport) m [] [] j (Err n) (shared_outcome c (Err n)) refl refl)

  -- tested by t for refusal 5
  module _ (f : coupler_checked c (length m) (length j) ≡ Ok tt) (t : Bool) (dt : t ≡ store_wrong (length m) place (length bytes)) where
    pub host_outside : t ≡ true → Leaves (host_on (world_of_none c m j) (length j) place bytes) j (shared_outcome c (Err refusal.Store)) m [] [] j
    unfolding host_on step_of
    host_outside h = rw f (store_stops transports (session_over c no_transport) m [] [] j place bytes t dt (shared_outcome c (Err refusal.Store)) h refl refl)

    pub host_ready : t ≡ false → StoreReady c (length m) (length j) place (length bytes)
    unfolding store_wrong
    host_ready h =
        let q = neither (ltb host_limit (length bytes)) (ltb (length m) (place + length bytes)) (sym dt ∙ h) in
        record {
          right = f;
          short = ltb-false host_limit (length bytes) q.0;
          inside = ltb-false (length m) (place + length bytes) q.1;
        }

    pub host_goes : (o : Outcome) (m' j' : List ℕ) → t ≡ false → Leaves (taken_as (world_of_none c m j) (stored (world_of_none c m j).core place bytes) (Ok (answer.Step false))) j o m' [] [] j'
        → Leaves (host_on (world_of_none c m j) (length j) place bytes) j o m' [] [] j'
    unfolding host_on step_of
    host_goes o m' j' h l = rw f (store_takes transports (session_over c no_transport) m [] [] j place bytes t dt o m' [] [] j' h l)
