-- What no call touches: an absent transport's calls leave everything, and a call of one transport leaves every other's record, reel and table.
use mathlib.Core.Bool.{Bool, true}
use mathlib.Core.List.{List}
use mathlib.Core.Path.{◌≡◌, refl, ap}
use Prim.Native.Nat.{ℕ}
use lib.Dec.{eqb}
use lib.Seq.{get_or-set_other}
use Rattle.std.specs.Prelude.{Ok, Err}
use Rattle.state.proofs.Tests.{either}
use Rattle.state.specs.declared.refusal.Refusal.TheVariants as refusal
use Rattle.state.proofs.Behind.{behind_told}
use Rattle.commands.specs.Answers.{Answer}
use Rattle.commands.specs.declared.plans.Done.TheVariants as answer
use Rattle.unit.specs.Asks.{Ask}
use Rattle.unit.specs.declared.registers.Register.{Register}
use Rattle.entries.specs.Entries.{transports}
use Rattle.worlds.specs.Calls.{step_on, undo_on}
use Rattle.worlds.specs.Worlds.{Outcome}
use Rattle.worlds.specs.Calls.{RegisterRead}
use Rattle.worlds.specs.Coupled.{Coupled, CoupledAnswer, back_checked, back_over, deck_at, host_at, is_absent, lifted, lifted_none, mount_at, mounted_at, named_in, no_deck, refused_with, register_at, step_at, told, undo_named, undo_none, view_of, view_of_none}
use Rattle.worlds.proofs.Coupling.{other_deck}
use Rattle.histories.specs.Calling.{Call, Numbered, a_register, a_step, name_of, on_call, read_register, step, store, word_of}

-- "12 for a unit not present, checked first": each numbered call, and all is as it was; a register's word is 0
pub absent_step : (n k : ℕ) (a : Ask) (w : Coupled) → is_absent w k ≡ true → step_at w n k a ≡ refused_with refusal.Absent w
unfolding step_at
absent_step n k a w t = rw t

absent_register : (k : ℕ) (r : Register) (w : Coupled) → is_absent w k ≡ true → register_at w k r ≡ record { answer = Err refusal.Absent; word = 0 }
unfolding register_at
absent_register k r w t = rw t

pub absent_refused : (n : ℕ) (c : Call) (k : ℕ) (w : Coupled) → Numbered c k → is_absent w k ≡ true → on_call n c w ≡ refused_with refusal.Absent w
unfolding on_call
absent_refused n c k w (a_step {a = a}) t = absent_step n k a w t
absent_refused n c k w (a_register {r = r}) t = ap (λ (x : RegisterRead). told x.answer w) (absent_register k r w t)

pub absent_word : (c : Call) (k : ℕ) (w : Coupled) → Numbered c k → is_absent w k ≡ true → word_of c w ≡ 0
unfolding word_of
absent_word c k w a_step t = refl
absent_word c k w (a_register {r = r}) t = ap (λ x. x.word) (absent_register k r w t)

pub absent_mount : (n k e : ℕ) (online locked : Bool) (w : Coupled) → is_absent w k ≡ true → mount_at w n k e online locked ≡ refused_with refusal.Absent w
unfolding mount_at
absent_mount n k e online locked w t = rw t

-- a step, a register or a host store leaves every deck but its own transport's; a host store leaves them all
pub others_stay : (n : ℕ) (c : Call) (w : Coupled) (i : ℕ) → (i ≡ name_of c → ⊥) → deck_at (on_call n c w).coupled.rig i ≡ deck_at w.rig i
unfolding on_call name_of step_at lifted host_at lifted_none
others_stay n (step k a h) w i f =
    either (λ (x : CoupledAnswer). deck_at x.coupled.rig i ≡ deck_at w.rig i) (is_absent w k) (refused_with refusal.Absent w) (lifted k w (step_on (view_of k w) n a)) refl
    (other_deck i k (step_on (view_of k w) n a).world.core w.rig f)
others_stay n (store place bytes) w i f = refl
others_stay n (read_register k r) w i f = refl

pub store_stays : (n place : ℕ) (bytes : List ℕ) (w : Coupled) → (host_at w n place bytes).coupled.rig.decks ≡ w.rig.decks
unfolding host_at lifted_none
store_stays n place bytes w = refl

-- so does a mount
mounted_others : (w : Coupled) (k : ℕ) (o : Outcome) (tb : List ℕ) (a : Answer) (i : ℕ) → (i ≡ k → ⊥) → deck_at (mounted_at w k o tb a).rig i ≡ deck_at w.rig i
unfolding mounted_at
mounted_others w k o tb (Ok (answer.Step b)) i f = get_or-set_other w.rig.decks k i _ no_deck f
mounted_others w k o tb (Ok answer.Idle) i f = refl
mounted_others w k o tb (Err j) i f = refl

pub mount_others : (n k e : ℕ) (online locked : Bool) (w : Coupled) (i : ℕ) → (i ≡ k → ⊥) → deck_at (mount_at w n k e online locked).coupled.rig i ≡ deck_at w.rig i
unfolding mount_at
mount_others n k e online locked w i f =
    either (λ (x : CoupledAnswer). deck_at x.coupled.rig i ≡ deck_at w.rig i) (is_absent w k) (refused_with refusal.Absent w) _ refl (mounted_others w k _ _ _ i f)

-- a step back leaves every deck but that of the transport which the newest entry names; where it names none, all of them
pub back_others : (n : ℕ) (w : Coupled) (i : ℕ) → (i ≡ named_in w.ledger.bytes → ⊥) → deck_at (back_over w n).coupled.rig i ≡ deck_at w.rig i
unfolding back_over undo_named lifted lifted_none
back_others n w i f =
    let k : ℕ = named_in w.ledger.bytes in
    behind_told (λ (x : CoupledAnswer). deck_at x.coupled.rig i ≡ deck_at w.rig i) (back_checked w n) (λ r. refused_with r w) (undo_named w k)
    (λ r t. refl)
    (λ t. either (λ (x : CoupledAnswer). deck_at x.coupled.rig i ≡ deck_at w.rig i) (eqb k transports) (lifted_none w (undo_none (view_of_none w))) (lifted k w (undo_on (view_of k w))) refl
    (other_deck i k (undo_on (view_of k w)).world.core w.rig f))

pub back_none_named : (n : ℕ) (w : Coupled) → named_in w.ledger.bytes ≡ transports → (back_over w n).coupled.rig.decks ≡ w.rig.decks
unfolding back_over undo_named lifted_none
back_none_named n w e =
    behind_told (λ (x : CoupledAnswer). x.coupled.rig.decks ≡ w.rig.decks) (back_checked w n) (λ r. refused_with r w) (undo_named w (named_in w.ledger.bytes))
    (λ r t. refl)
    (λ t. rw e refl)
