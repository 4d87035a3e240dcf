-- Demand 2 at the call: what is proved of an advance, and of the sweep, holds of the calls `advance` and `mount`.
use mathlib.Core.Bool.{Bool, ◌||◌, ◌&&◌, not, true≢false}
use mathlib.Core.List.{List}
use mathlib.Core.Path.{◌≡◌, refl, sym, ap, subst, ◌∙◌}
use Prim.Native.Nat.{ℕ, ◌*◌, ◌/◌, ◌%◌, ◌-◌, ◌≤◌}
use native.Mathlib.Omega.{arith}
use borrow.Author.Tests.{ltb-false, ltb-true}
use lib.Dec.{eqb, ltb}
use lib.ListN.{length}
use Rattle.std.specs.Prelude.{Result, Ok, Err, ⊤}
use Rattle.lists.proofs.Cases.{by_test}
use Rattle.tape.specs.Afresh.{objects_in}
use Rattle.tape.specs.Numbers.{block_bytes}
use Rattle.tape.specs.Sweep.{swept_below}
use Rattle.tape.specs.Sweep.{Swept}
use Rattle.index.specs.Table.{places_in}
use Rattle.state.specs.Changes.{mounted_as}
use Rattle.state.specs.Checks.{blocks_right, memory_right, refusal_of, state_wrong}
use Rattle.state.specs.declared.Unit.{Unit}
use Rattle.state.proofs.Tests.{either}
use Rattle.lists.specs.Pick.{Always}
use Rattle.state.specs.Refusals.{behind, refusal_number}
use Rattle.state.proofs.Behind.{by_check, in_block_is}
use Rattle.state.specs.declared.refusal.Refusal.{Refusal}
use Rattle.state.specs.declared.refusal.Refusal.TheVariants as refusal
use Rattle.commands.specs.Answers.{is_step, number_of}
use Rattle.commands.specs.Ends.{still}
use Rattle.commands.specs.Answers.{Answer}
use Rattle.commands.specs.declared.plans.Done.TheVariants as answer
use Rattle.commands.specs.declared.plans.Plan.{Plan}
use Rattle.commands.proofs.Every.{DoneOrBad}
use Rattle.advance.specs.Steps.{advanced}
use Rattle.demands.specs.Ways.{idle as idle-way}
use Rattle.demands.proofs.Answering.{busy_answers}
use Rattle.demands.proofs.Faults.{swept_first}
use Rattle.demands.proofs.Reached.{advanced_must, must_first}
use Rattle.demands.proofs.Ways.{advanced_is}
use Rattle.unit.specs.Asks.{advance}
use Rattle.unit.specs.Cores.{Admitted, Core}
use Rattle.unit.specs.Mounts.{mount_call_under, mount_refusal, mount_swept}
use Rattle.unit.specs.Steps.{Step, carried, step_of}
use Rattle.unit.proofs.Accepted.{accepts}
use Rattle.entries.specs.Entries.{entry_length}
use Rattle.worlds.specs.Worlds.{World, answered, session_of}
use Rattle.worlds.specs.Refusals.{checked, journal_limit, session_wrong}
use Rattle.worlds.specs.Calls.{entry_for, guarded, mount_on, mounted_by, absent_place, step_on, taken_as, taken_by, too_full}
use Rattle.worlds.specs.declared.Session.{Session}
use Rattle.worlds.specs.Worlds.{Outcome}
use Rattle.worlds.proofs.Passing.{core_accepted, passed}
use Rattle.sessions.specs.Advancing.{Comes, Idle, Names, a_step, at_fault, checked_with, idle, no_place, no_room, refused}
use Rattle.sessions.specs.Calling.{doing}
use Rattle.sessions.proofs.Obeying.{advanced_obeys}
use Rattle.sessions.proofs.Room.{crowded, never_crowded}

-- refusals 1 to 4 have these numbers, and so has a mount's 2 or 3
abbrev pub Few : Result ⊤ Refusal → Type 0
Few (Ok p) = Always
Few (Err r) = refusal_number r ≤ 4

few_behind : (c x : Result ⊤ Refusal) → Few c → Few x → Few (behind c (λ r. Err r) x)
few_behind (Ok p) x a b = b
few_behind (Err r) x a b = a

few_of : (u : Unit) (memory reel : ℕ) → Few (refusal_of u memory reel)
unfolding refusal_of refusal_number
few_of u memory reel =
    either Few (state_wrong u) (Err refusal.State) _ (omega arith)
    (either Few (not (eqb memory u.lengths.memory)) (Err refusal.Memory) _ (omega arith)
    (either Few (not (eqb reel (block_bytes * u.lengths.blocks))) (Err refusal.Reel) (Ok tt) (omega arith) tt))

pub checked_few : (s : Session) (memory reel journal : ℕ) → Few (checked s memory reel journal)
unfolding checked refusal_number
checked_few s memory reel journal =
    either Few (session_wrong s) (Err refusal.State) _ (omega arith)
    (few_behind (refusal_of s.unit memory reel) _ (few_of s.unit memory reel) (either Few (not (eqb journal s.journal)) (Err refusal.Journal) (Ok tt) (omega arith) tt))

mount_few : (memory reel e : ℕ) → Few (mount_refusal memory reel e)
unfolding mount_refusal refusal_number
mount_few memory reel e =
    either Few (memory_right memory) _ (Err refusal.Memory)
    (either Few ((not (eqb (reel % block_bytes) 0) || not (blocks_right (reel / block_bytes))) || ltb (reel / block_bytes) e) (Err refusal.Reel) (Ok tt) (omega arith) tt)
    (omega arith)

module _ (n : ℕ) (w : World) where
  abbrev plan : Plan
  plan = advanced w.core.unit w.core.memory w.core.reel

  -- what is left to say where no check refuses
  module _ (sound : checked_with n w ≡ Ok tt) where
    admitted : Admitted w.core
    admitted = core_accepted w n (passed (session_of w) (length w.core.memory) (length w.core.reel) n sound)

    comes_idle : Idle w.core.unit → Comes n w (taken_by w (carried w.core plan) plan.answer)
    unfolding taken_by still
    comes_idle h = idle sound h (rw (advanced_is w.core.unit w.core.memory w.core.reel (idle-way h.0 h.1)))

    comes_by : (a : Answer) → plan.answer ≡ a → DoneOrBad a → (Idle w.core.unit → ⊥) → Comes n w (taken_by w (carried w.core plan) a)
    unfolding taken_by taken_as carried step_of doing is_step
    comes_by (Ok (answer.Step i)) e d busy =
        let free : ℕ = w.ledger.length - w.ledger.used in
        let x : Step = carried w.core plan in
        let long : ℕ = entry_length (entry_for w.number w.core x) in
        by_test (absent_place w.core x)
        (λ s. no_place sound busy (ap is_step e) (crowded w.core x s) (rw s))
        (λ s. by_test (too_full w.ledger (entry_for w.number w.core x))
        (λ t. no_room sound busy (ap is_step e) (never_crowded w.core x s) (ltb-true free long t) (rw (s, t)))
        (λ t. rw (s, t) (a_step sound busy (never_crowded w.core x s) (λ f. absurd (omega (arith, f, ltb-false free long t))) refl (advanced_obeys w.core admitted i e))))
    comes_by (Ok answer.Idle) e d busy = absurd d
    comes_by (Err r) e d busy =
        let b = in_block_is r d in
        let c : Core = w.core in
        let must = advanced_must c.unit c.memory c.reel b.0 b.1 admitted.legal.place (e ∙ ap Err b.2) in
        let first = must_first c.unit c.memory c.reel b.0 b.1 admitted.legal.place must in
        at_fault sound busy (record { read = must; held = omega (arith, first.below, admitted.legal.capacity, admitted.reel_is); first = first }) (ap (λ (x : Refusal). answered (Err x) w) b.2)

    comes_on : Comes n w (taken_by w (carried w.core plan) plan.answer)
    comes_on =
        let u : Unit = w.core.unit in
        let on : (Idle u → ⊥) → Comes n w (taken_by w (carried w.core plan) plan.answer) =
        λ busy. comes_by plan.answer refl (busy_answers u w.core.memory w.core.reel (λ a b. busy (a, b))) busy in
        by_test u.registers.ssr
        (λ s. by_test (u.attention.pending && u.attention.unit_owns) (λ t. on (λ h. absurd (true≢false (sym t ∙ h.1)))) (λ t. comes_idle (s, t)))
        (λ s. on (λ h. absurd (true≢false (sym h.0 ∙ s))))

  -- every call of advance
  pub advance_comes : Comes n w (step_on w n advance)
  unfolding step_on guarded step_of carried
  advance_comes =
      by_check (checked_with n w)
      (λ t. rw t (comes_on t))
      (λ r t. rw t (refused t refl))

module _ (old : Session) (memory : ℕ) (r : List ℕ) (table journal e : ℕ) (online locked : Bool) where
  -- a mount's answer, and its state, by what the sweep came to
  abbrev after : Swept → Outcome
  after x = mounted_by old table journal (objects_in r e) (mount_swept (mounted_as e online locked (record { memory = memory; blocks = length r / block_bytes })) x)

  swept_seven : (x : Swept) → e ≤ length r / block_bytes → swept_below r e ≡ x → number_of (after x).answer ≡ 7 → Names r e (after x).answer
  unfolding mount_swept mounted_by number_of refusal_number
  swept_seven (Ok u) h y z =
      by_test (ltb (places_in table) (length (objects_in r e)))
      (λ t. let n : ◌≡◌ {A = ℕ} 11 7 = rw t at z in absurd (omega arith))
      (λ t. let n : ◌≡◌ {A = ℕ} 0 7 = rw t at z in absurd (omega arith))
  swept_seven (Err d) h y z = let first = swept_first r e d.fault d.block y in (d.fault, d.block, refl, omega (arith, first.below), first)

  -- a mount that answers 7 names the first block at fault from block 0 on
  pub mount_names : number_of (mount_on old memory r table journal e online locked).answer ≡ 7 → Names r e (mount_on old memory r table journal e online locked).answer
  unfolding mount_on mount_call_under number_of refusal_number
  mount_names z =
      by_check (mount_refusal memory (length r) e)
      (λ t. by_test (ltb journal_limit journal)
      (λ v. let y : 4 ≡ 7 = rw (t, v) at z in absurd (omega (arith, y)))
      (λ v. rw (t, v) (swept_seven (swept_below r e) (accepts memory (length r) e t).below refl (rw (t, v) at z))))
      (λ x t. let y : refusal_number x ≡ 7 = rw t at z in let f : refusal_number x ≤ 4 = subst Few t (mount_few memory (length r) e) in absurd (omega (arith, y, f)))
