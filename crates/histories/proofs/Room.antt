-- "A step is refused for room exactly when its entry doesn't fit", if nothing earlier refuses it; and with 11, before that, exactly when the transport's table is too small,
-- which is no transport's for a host store: it is never refused with 11.
use mathlib.Core.Bool.{Bool, false}
use mathlib.Core.List.{List}
use mathlib.Core.Logic.{inl, inr}
use mathlib.Core.Path.{◌≡◌, refl, sym, ap, subst, ◌∙◌}
use Prim.Native.Nat.{ℕ}
use native.Mathlib.Omega.{arith}
use lib.ListN.{length}
use Rattle.std.specs.Prelude.{Ok, Err}
use Rattle.state.proofs.Tests.{either}
use Rattle.state.specs.declared.refusal.Refusal.TheVariants as refusal
use Rattle.commands.specs.declared.plans.Done.TheVariants as answer
use Rattle.unit.specs.Asks.{Ask, host_store}
use Rattle.unit.specs.Steps.{Step, step_of, store_wrong, stored}
use Rattle.worlds.specs.Worlds.{World, session_of}
use Rattle.worlds.specs.Passes.{Fit}
use Rattle.worlds.specs.Rows.{coupler_checked, coupler_of}
use Rattle.worlds.specs.Coupled.{Coupled, Rig, core_of, core_of_none, coupler_in, host_at, host_on, is_absent, lifted, lifted_none, refused_with, step_at, view_of, view_of_none}
use Rattle.worlds.proofs.Coupling.{refused_none, refused_same}
use Rattle.sessions.specs.Good.{NoPlace, NoRoom}
use Rattle.sessions.proofs.Room.{room_asked, room_taken}
use Rattle.histories.specs.Calling.{Call, Here, OfUnit, core_for, coupled_from, doing, entry_at, name_of, on_call, read_register, step, store}
use Rattle.histories.specs.Good.{Every, Good}
use Rattle.histories.specs.Room.{Exactly, Steppable}
use Rattle.histories.proofs.Rows.{every_good}
use Rattle.histories.proofs.Taking.{step_present}

-- a step of a transport that refusals 1 to 4 let pass
pub step_room : (n : ℕ) (w : Coupled) (k : ℕ) (a : Ask) (h : OfUnit a) (i : Bool) → is_absent w k ≡ false → Fit n (view_of k w) → (step_of a (core_of k w.rig)).answer ≡ Ok (answer.Step i)
    → Exactly w (step k a h) (step_at w n k a)
unfolding lifted core_for doing name_of
step_room n w k a h i p fit e =
    let x = room_asked n a (view_of k w) i fit e in
    subst (Exactly w (step k a h)) (sym (step_present n w k a p))
    (record {
      nine = λ r. x.nine r;
      no_room = λ f r. ap (lifted k w) (x.no_room f r) ∙ refused_same k w (Err refusal.Room);
      eleven = λ r. x.eleven r;
      no_place = λ r. ap (lifted k w) (x.no_place r) ∙ refused_same k w (Err refusal.Table);
    })

-- a host store is no step of a table
module _ (g : Rig) (place : ℕ) (bytes : List ℕ) where
  none_before : (core_of_none g).objects ≡ 0
  unfolding core_of_none
  none_before = refl

  none_after : (step_of (host_store place bytes) (core_of_none g)).after.objects ≡ 0
  unfolding step_of stored core_of_none
  none_after = either (λ (x : Step). x.after.objects ≡ 0) (store_wrong (length g.memory) place (length bytes)) _ _ refl refl

  pub no_table : NoPlace (core_of_none g) (step_of (host_store place bytes) (core_of_none g)) → ⊥
  no_table (inl h) = absurd (omega (arith, h, none_before))
  no_table (inr h) = absurd (omega (arith, h, none_after))

-- the world of none has the shared numbers
none_checked : (n : ℕ) (w : Coupled) → coupler_checked (coupler_in w) (length w.rig.memory) n ≡ Ok tt → coupler_checked (coupler_of (session_of (view_of_none w))) (length (view_of_none w).core.memory) n ≡ Ok tt
unfolding core_of_none
none_checked n w c = c

-- a host store that 1, 2 and 4 let pass
pub store_room : (n : ℕ) (w : Coupled) (place : ℕ) (bytes : List ℕ) (i : Bool) → coupler_checked (coupler_in w) (length w.rig.memory) n ≡ Ok tt
    → (step_of (host_store place bytes) (core_of_none w.rig)).answer ≡ Ok (answer.Step i) → Exactly w (store place bytes) (host_at w n place bytes)
unfolding host_at host_on lifted_none core_for doing name_of
store_room n w place bytes i c e =
    let v : World = view_of_none w in
    let x = room_taken v (step_of (host_store place bytes) v.core) i (step_of (host_store place bytes) v.core).answer e in
    let check : coupler_checked (coupler_of (session_of v)) (length v.core.memory) n ≡ Ok tt = none_checked n w c in
    rw check
    (record {
      nine = λ r. x.nine r;
      no_room = λ f r. ap (lifted_none w) (x.no_room f r) ∙ refused_none w (Err refusal.Room);
      eleven = λ r. x.eleven r;
      no_place = λ r. ap (lifted_none w) (x.no_place r) ∙ refused_none w (Err refusal.Table);
    })

-- at every moment of a shared history, every unit in the row mounted
pub room_exactly : (n : ℕ) (ks : List ℕ) (s : Here) → Good n ks s → Every ks s → (c : Call) → Steppable c s.core → Exactly (coupled_from n s) c (on_call n c (coupled_from n s))
unfolding on_call
room_exactly n ks s f every (step k a h) p = step_room n (coupled_from n s) k a h p.1.0 p.0 (every_good n ks s f every k p.0).fit p.1.1
room_exactly n ks s f every (store place bytes) p = store_room n (coupled_from n s) place bytes p.0 f.shared p.1
room_exactly n ks s f every (read_register k r) p = absurd p

-- a host store, whichever transports are mounted: refused with 9 exactly when there is no room, and never with 11
pub store_exactly : (n : ℕ) (ks : List ℕ) (s : Here) → Good n ks s → (place : ℕ) (bytes : List ℕ) → Steppable (store place bytes) s.core
    → (NoRoom (coupled_from n s).ledger (entry_at (store place bytes) s.core) → host_at (coupled_from n s) n place bytes ≡ refused_with refusal.Room (coupled_from n s))
    × ((host_at (coupled_from n s) n place bytes).answer ≡ Err refusal.Room → NoRoom (coupled_from n s).ledger (entry_at (store place bytes) s.core))
    × ((host_at (coupled_from n s) n place bytes).answer ≡ Err refusal.Table → ⊥)
unfolding core_for doing
store_exactly n ks s f place bytes p =
    let x = store_room n (coupled_from n s) place bytes p.0 f.shared p.1 in
    (λ r. x.no_room (no_table s.core place bytes) r, λ r. x.nine r, λ r. no_table s.core place bytes (x.eleven r))
