-- Demand 2 for a host: what an exported advance comes to, and which block it or a mount names.
use mathlib.Core.Bool.{Bool, false}
use mathlib.Core.List.{List}
use mathlib.Core.Path.{◌≡◌, refl, sym, ap, subst, ◌∙◌}
use Prim.Native.Nat.{ℕ, ◌/◌, ◌<◌, ◌≤◌}
use native.Mathlib.Omega.{arith}
use lib.ListN.{length}
use Rattle.std.specs.Prelude.{Ok, Err}
use Rattle.lists.specs.Words.{Bytes}
use Rattle.lists.proofs.Cases.{by_test}
use Rattle.tape.specs.Letters.{letter_of}
use Rattle.tape.specs.Numbers.{block_bytes}
use Rattle.tape.specs.declared.BlockFault.{BlockFault}
use Rattle.state.specs.declared.refusal.Refusal.TheVariants as refusal
use Rattle.state.specs.Refusals.{block_of, fault_of, refusal_number}
use Rattle.state.proofs.Behind.{few_block, few_fault, refusal_some}
use Rattle.commands.specs.Answers.{block_in, fault_in, interrupt_in, is_step, number_of}
use Rattle.commands.specs.Answers.{Answer}
use Rattle.commands.specs.declared.plans.Done.TheVariants as answer
use Rattle.demands.specs.Faults.{FirstFault}
use Rattle.unit.specs.Asks.{advance}
use Rattle.worlds.specs.Worlds.{Answered, World, session_of}
use Rattle.worlds.specs.Calls.{mount_on, step_on}
use Rattle.sessions.specs.Advancing.{Comes, FaultAhead, a_step, at_fault, idle, no_place, no_room, refused}
use Rattle.sessions.specs.Calling.{Call, on_call, step}
use Rattle.sessions.specs.Rules.{Obeys}
use Rattle.sessions.proofs.Advances.{Few, advance_comes, checked_few, mount_names}
use Rattle.stateblock.specs.Block.{Block, is_block, session_in, state_length}
use Rattle.ts11.specs.Given.{Host, Mounts, Tells, opened, world_in}
use Rattle.surface.specs.Hosting.{HostComes, Returned, given}
use Rattle.surface.specs.Hosting.{a_step as host-step, at_fault as host-fault, idle as host-idle, no_place as host-crowded, no_room as host-full, no_state, refused_first}
use Rattle.surface.proofs.Refused.{call_nothing}
use Rattle.surface.proofs.Runs.{given_is, runs_as}

abbrev call : Call
call = step advance tt

-- any 128 bytes in the place of a state, and any memory, reel, table and journal
module _ (h : Host) (long : length h.block ≡ state_length) (bytes : Bytes h.block) {h' : Host} {number block fault : ℕ} {steps interrupts : Bool}
    (g : Returned h (given call h) number h') (t : Tells (given call h) steps interrupts block fault) where
  abbrev does : Answered
  does = step_on (world_in h) (length h.journal) advance

  -- an answer that is no step changes nothing
  nothing : {a : Answer} → (given call h).answer ≡ a → is_step a ≡ false → (steps ≡ false) × (h' ≡ h)
  nothing e n =
      let z : is_step (given call h).answer ≡ false = ap is_step e ∙ n in
      (t.stepped ∙ z, call_nothing call g.gives z)

  -- what is told of a block, by the answer
  blocked : {a : Answer} → (given call h).answer ≡ a → block ≡ block_in a
  blocked e = t.block ∙ ap block_in e

  faulted : {a : Answer} → (given call h).answer ≡ a → fault ≡ fault_in a
  faulted e = t.fault ∙ ap fault_in e

  -- and whether it interrupts
  unsaid : {a : Answer} → (given call h).answer ≡ a → interrupts ≡ interrupt_in a
  unsaid e = t.interrupt ∙ ap interrupt_in e

  abbrev Here : Type 0
  Here = HostComes h number steps interrupts block fault h'

  module _ (b : Block h.block) where
    is : given call h ≡ does
    unfolding on_call
    is = given_is call h b

    reads_as : {x : Answered} → does ≡ x → (given call h).answer ≡ x.answer
    reads_as e = ap (λ (x : Answered). x.answer) (is ∙ e)

    numbered : {a : Answer} → (given call h).answer ≡ a → number ≡ number_of a
    numbered e = g.gives.answer ∙ ap number_of e

    comes_as : Comes (length h.journal) (world_in h) does → Here
    unfolding is_step number_of block_in fault_in interrupt_in on_call refusal_number block_of fault_of
    comes_as (refused {r} c e) =
        let y = reads_as e in
        let few : Few (Err r) = subst Few c (checked_few (session_of (world_in h)) (length h.memory) (length h.reel) (length h.journal)) in
        refused_first (λ z. refusal_some r (sym (numbered y) ∙ z)) (subst (λ (k : ℕ). k ≤ 4) (sym (numbered y)) few) c (numbered y) (nothing y refl).0 (unsaid y) (blocked y ∙ few_block r few) (faulted y ∙ few_fault r few) (nothing y refl).1
    comes_as (idle c i e) = let y = reads_as e in host-idle i (numbered y) (nothing y refl).0 (unsaid y) (blocked y) (faulted y) (nothing y refl).1
    comes_as (at_fault c busy f e) =
        let y = reads_as e in
        host-fault busy (subst (FaultAhead (world_in h).core _) (sym (blocked y)) f) (faulted y) (numbered y) (nothing y refl).0 (unsaid y) (nothing y refl).1
    comes_as (no_place c busy ends f e) = let y = reads_as e in host-crowded busy ends f (numbered y) (nothing y refl).0 (unsaid y) (blocked y) (faulted y) (nothing y refl).1
    comes_as (no_room c busy ends places f e) = let y = reads_as e in host-full busy ends places f (numbered y) (nothing y refl).0 (unsaid y) (blocked y) (faulted y) (nothing y refl).1
    comes_as (a_step {i} c busy places room e o) =
        let y : (given call h).answer ≡ Ok (answer.Step i) = ap (λ (x : Answered). x.answer) is ∙ e in
        let after = subst (λ (w : World). Obeys (world_in h).core i w.core) (sym (runs_as call h b g).1) o in
        host-step busy places room (numbered y) (t.stepped ∙ ap is_step y) (blocked y) (faulted y) (subst (λ (i : Bool). Obeys (world_in h).core i (world_in h').core) (sym (t.interrupt ∙ ap interrupt_in y)) after)

  -- demand 2 of every exported advance
  pub host_comes : Here
  unfolding given opened is_step number_of block_in fault_in interrupt_in refusal_number block_of fault_of
  host_comes =
      by_test (is_block h.block)
      (λ r. comes_as (record { long = long; bytes = bytes; right = r }) (advance_comes (length h.journal) (world_in h)))
      (λ r. let y : (given call h).answer ≡ Err refusal.State = rw r in no_state r (g.gives.answer ∙ ap number_of y) (nothing y refl).0 (unsaid y) (blocked y) (faulted y) (nothing y refl).1)

-- a mount that returns 7 names the first block at fault from block 0 on, and tells what is wrong with it
pub host_mount_names : {b b' t t' : List ℕ} {number block fault : ℕ} (memory : ℕ) (r : List ℕ) (table journal e : ℕ) (online locked : Bool)
    → Mounts b (mount_on (session_in b) memory r table journal e online locked) t number b' t' block fault → number ≡ 7
    → (why : BlockFault) × (fault ≡ letter_of why) × (block < length r / block_bytes) × FirstFault r e false 0 why block
unfolding block_in fault_in block_of fault_of
host_mount_names {b} memory r table journal e online locked g z =
    let n = mount_names (session_in b) memory r table journal e online locked (sym g.answer ∙ z) in
    let is = g.block ∙ ap block_in n.2 in
    (n.0, g.fault ∙ ap fault_in n.2, omega (arith, is, n.3), subst (FirstFault r e false 0 n.0) (sym is) n.4)
