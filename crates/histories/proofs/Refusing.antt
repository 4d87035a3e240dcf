-- Demand 1 over the row, from any coupled world, made up or not: a step back or a mount that is refused changes nothing.
use mathlib.Core.Bool.{Bool, not}
use mathlib.Core.List.{List}
use mathlib.Core.Path.{◌≡◌, refl, ap, ◌∙◌}
use Prim.Native.Nat.{ℕ}
use lib.Dec.{eqb}
use lib.ListN.{length}
use Rattle.std.specs.Prelude.{Ok, Err}
use Rattle.state.proofs.Tests.{either}
use Rattle.state.specs.declared.refusal.Refusal.TheVariants as refusal
use Rattle.state.proofs.Behind.{behind_told}
use Rattle.commands.specs.Answers.{Answer}
use Rattle.commands.specs.declared.plans.Done.TheVariants as answer
use Rattle.entries.specs.Entries.{entry_fits, newest_entry, transports}
use Rattle.entries.specs.declared.Entry.{Entry}
use Rattle.worlds.specs.Calls.{entry_wrong, no_place_back, refused_as, undo_by, undo_on}
use Rattle.worlds.specs.Worlds.{Answered, World}
use Rattle.worlds.specs.Worlds.{Outcome}
use Rattle.worlds.specs.Coupled.{Coupled, CoupledAnswer, Rig, back_checked, back_over, core_of_none, is_absent, lifted, lifted_none, mount_at, mounted_at, named_in, refused_with, told, undo_named, undo_none, undo_none_by, view_of, view_of_none, with_core, with_memory}
use Rattle.worlds.proofs.Coupling.{put_core}
use Rattle.sessions.specs.Calling.{Left, step_kind}
use Rattle.sessions.specs.Session.{stepped}

-- a call that took no step left the coupled world as it was
abbrev pub LeftOver : Coupled → CoupledAnswer → Type 0
LeftOver w x = (step_kind x.answer ≡ stepped → ⊥) → x.coupled ≡ w

-- the newest entry brought back, or refused with 8 or 11
undo_left : (w : World) → Left w (undo_on w)
unfolding undo_on undo_by step_kind
undo_left w =
    let e : Entry = newest_entry w.core.objects w.ledger.bytes in
    either (Left w) (entry_wrong w e) (refused_as refusal.Entry w) _ (λ g. refl)
    (either (Left w) (no_place_back w.core e) (refused_as refusal.Table w) _ (λ g. refl) (λ g. absurd (g refl)))

undo_none_left : (w : World) → Left w (undo_none w)
unfolding undo_none undo_none_by step_kind
undo_none_left w =
    let e : Entry = newest_entry 0 w.ledger.bytes in
    either (Left w) (not (entry_fits e w.ledger.used w.core.unit.lengths (length w.core.memory) 0 0)) (refused_as refusal.Entry w) _ (λ g. refl) (λ g. absurd (g refl))

module _ (w : Coupled) where
  lifted_left : (k : ℕ) (x : Answered) → Left (view_of k w) x → LeftOver w (lifted k w x)
  unfolding lifted
  lifted_left k x f g =
      ap (λ (v : World). record { rig = with_core k v.core w.rig; ledger = v.ledger }) (f g)
      ∙ ap (λ (r : Rig). record { rig = r; ledger = w.ledger }) (put_core k w.rig)

  lifted_none_left : (x : Answered) → Left (view_of_none w) x → LeftOver w (lifted_none w x)
  unfolding lifted_none core_of_none
  lifted_none_left x f g = ap (λ (v : World). record { rig = with_memory v.core.memory w.rig; ledger = v.ledger }) (f g)

  pub back_stays : (n : ℕ) → LeftOver w (back_over w n)
  unfolding back_over undo_named
  back_stays n =
      let k : ℕ = named_in w.ledger.bytes in
      behind_told (LeftOver w) (back_checked w n) (λ r. refused_with r w) (undo_named w k)
      (λ r t g. refl)
      (λ t. either (LeftOver w) (eqb k transports) (lifted_none w (undo_none (view_of_none w))) (lifted k w (undo_on (view_of k w)))
      (lifted_none_left (undo_none (view_of_none w)) (undo_none_left (view_of_none w)))
      (lifted_left k (undo_on (view_of k w)) (undo_left (view_of k w))))

  -- a mount by its answer
  mounted_left : (k : ℕ) (o : Outcome) (tb : List ℕ) (a : Answer) → LeftOver w (told a (mounted_at w k o tb a))
  unfolding mounted_at step_kind
  mounted_left k o tb (Ok (answer.Step i)) g = absurd (g refl)
  mounted_left k o tb (Ok answer.Idle) g = refl
  mounted_left k o tb (Err j) g = refl

  pub mount_stays : (n k e : ℕ) (online locked : Bool) → LeftOver w (mount_at w n k e online locked)
  unfolding mount_at
  mount_stays n k e online locked = either (LeftOver w) (is_absent w k) (refused_with refusal.Absent w) _ (λ g. refl) (mounted_left k _ _ _)
