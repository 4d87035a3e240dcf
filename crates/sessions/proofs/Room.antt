-- "A step is refused for room exactly when its entry doesn't fit", if nothing earlier refuses it; and with 11, before that, exactly when the table is too
-- small.
use mathlib.Core.Path.{◌≡◌, sym, ap, ◌∙◌}
use mathlib.Core.Bool.{Bool, true, false, or-true, true≢false}
use mathlib.Core.Logic.{inl, inr}
use Prim.Native.Nat.{ℕ, ◌-◌}
use native.Mathlib.Omega.{arith}
use borrow.Author.Tests.{lt-ltb, ltb-true}
use lib.Dec.{ltb}
use lib.ListN.{length}
use Rattle.std.specs.Prelude.{Ok, Err}
use Rattle.lists.proofs.Cases.{by_test}
use Rattle.index.specs.Table.{places_in}
use Rattle.state.specs.declared.refusal.Refusal.TheVariants as refusal
use Rattle.state.specs.Refusals.{refusal_number}
use Rattle.state.specs.declared.refusal.Refusal.{Refusal}
use Rattle.commands.specs.Answers.{Answer, number_of}
use Rattle.commands.specs.declared.plans.Done.TheVariants as answer
use Rattle.unit.specs.Asks.{Ask}
use Rattle.unit.specs.Cores.{Core}
use Rattle.unit.specs.Steps.{Step, step_of, too_small}
use Rattle.entries.specs.Entries.{entry_length}
use Rattle.worlds.specs.Worlds.{World}
use Rattle.worlds.specs.Calls.{entry_for, absent_place, step_on, taken_as, taken_by, too_full}
use Rattle.worlds.specs.Passes.{Fit}
use Rattle.sessions.specs.Session.{refused, stepped}
use Rattle.sessions.specs.Calling.{Call, doing, entry_at, on_call, read_register, step, step_kind}
use Rattle.sessions.specs.Good.{Exactly, NoPlace, Steppable}
use Rattle.sessions.proofs.Taken.{let_through, refused_none}

-- "done" is no refusal
not_done : {P : Type 0} (i : Bool) (k : Refusal) → ◌≡◌ {A = Answer} (Ok (answer.Step i)) (Err k) → P
unfolding step_kind
not_done i k e = let z : refused ≡ stepped = sym (ap step_kind e) in refused_none z

other_number : {P : Type 0} → ◌≡◌ {A = Answer} (Err refusal.Table) (Err refusal.Room) → P
unfolding number_of refusal_number
other_number e = absurd (let z : ◌≡◌ {A = ℕ} 11 9 = ap number_of e in omega arith)

-- the test of 11 says what it means
module _ (c : Core) (x : Step) where
  abbrev places : ℕ
  places = places_in (length c.table)

  pub crowded : absent_place c x ≡ true → NoPlace c x
  unfolding too_small
  crowded t = by_test (ltb places c.objects) (λ a. inl (ltb-true places c.objects a)) (λ a. inr (ltb-true places x.after.objects (rw a at t)))

  pub crowds : NoPlace c x → absent_place c x ≡ true
  unfolding too_small
  crowds (inl h) = rw (lt-ltb places c.objects h)
  crowds (inr h) = rw (lt-ltb places x.after.objects h) (or-true (ltb places c.objects))

  pub not_crowded : (NoPlace c x → ⊥) → absent_place c x ≡ false
  not_crowded f = by_test (absent_place c x) (λ t. absurd (f (crowded t))) (λ t. t)

  pub never_crowded : absent_place c x ≡ false → NoPlace c x → ⊥
  never_crowded t h = true≢false (sym (crowds h) ∙ t)

module _ (w : World) (x : Step) where
  as_room : (i : Bool) → Exactly w x (entry_for w.number w.core x) (taken_as w x (Ok (answer.Step i)))
  unfolding taken_as
  as_room i =
      let free : ℕ = w.ledger.length - w.ledger.used in
      let long : ℕ = entry_length (entry_for w.number w.core x) in
      record {
        nine = λ r.
            by_test (absent_place w.core x)
            (λ s. let z : ◌≡◌ {A = Answer} (Err refusal.Table) (Err refusal.Room) = rw s at r in other_number z)
            (λ s. by_test (too_full w.ledger (entry_for w.number w.core x))
            (λ t. ltb-true free long t)
            (λ t. let z : ◌≡◌ {A = Answer} (Ok (answer.Step i)) (Err refusal.Room) = rw (s, t) at r in not_done i _ z));
        no_room = λ f h. rw (not_crowded w.core x f, lt-ltb free long h);
        eleven = λ r.
            by_test (absent_place w.core x)
            (λ s. crowded w.core x s)
            (λ s. by_test (too_full w.ledger (entry_for w.number w.core x))
            (λ t. let z : ◌≡◌ {A = Answer} (Err refusal.Room) (Err refusal.Table) = rw (s, t) at r in other_number (sym z))
            (λ t. let z : ◌≡◌ {A = Answer} (Ok (answer.Step i)) (Err refusal.Table) = rw (s, t) at r in not_done i _ z));
        no_place = λ h. rw (crowds w.core x h);
      }

  pub room_taken : (i : Bool) (a : Answer) → a ≡ Ok (answer.Step i) → Exactly w x (entry_for w.number w.core x) (taken_by w x a)
  unfolding taken_by
  room_taken i a e = rw e (as_room i)

-- of any ask
pub room_asked : (n : ℕ) (a : Ask) (w : World) (i : Bool) → Fit n w → (step_of a w.core).answer ≡ Ok (answer.Step i)
    → Exactly w (step_of a w.core) (entry_for w.number w.core (step_of a w.core)) (step_on w n a)
unfolding step_on
room_asked n a w i fit s =
    rw (let_through n w fit.sound (taken_by w (step_of a w.core) (step_of a w.core).answer))
    (room_taken w (step_of a w.core) i (step_of a w.core).answer s)

-- and of any call
pub room_exactly : (n : ℕ) (c : Call) (w : World) → Fit n w → Steppable c w.core → Exactly w (doing c w.core) (entry_at w.number c w.core) (on_call n c w)
unfolding on_call doing
room_exactly n (step a h) w fit s = room_asked n a w s.0 fit s.1
room_exactly n (read_register r) w fit s = absurd s
