-- What the plan of an end says, for the layers above, whether the end is told or not.
use mathlib.Core.Bool.{Bool, true, false}
use mathlib.Core.Path.{◌≡◌, refl}
use Prim.Native.Nat.{ℕ, ◌≤◌}
use borrow.Author.Tests.{not-true}
use Rattle.tape.specs.declared.BlockFault.{BlockFault}
use Rattle.state.specs.Checks.{last_class}
use Rattle.state.specs.Legal.{Legal}
use Rattle.state.specs.declared.Attention.{Attention}
use Rattle.state.specs.declared.Tape.{Tape}
use Rattle.state.specs.declared.Unit.{Unit}
use Rattle.state.proofs.Legal.{legal_with}
use Rattle.motions.specs.Parts.{no_lay, no_move}
use Rattle.motions.specs.declared.parts.Ending.{Ending}
use Rattle.commands.specs.Answers.{bad_block}
use Rattle.commands.specs.Ends.{ended, motion_plan, motion_plan_under, still, told, told_under, told_unit, untold, with_attention, with_tape}
use Rattle.commands.specs.Answers.{Answer}
use Rattle.commands.specs.declared.plans.Plan.{Plan}
use Rattle.std.specs.Prelude.{Result, Ok, Err}
use Rattle.tape.specs.declared.Damage.{Damage}
use Rattle.tape.specs.Damage.{damage}

-- the state v that an end of class k leaves of u: all but the end's own registers, the tape and the message buffer's owner stays
pub record EndsAs (u : Unit) (t : Tape) (k : ℕ) (v : Unit) : Type 0 where
  pub tape : v.tape ≡ t
  pub panel : v.panel ≡ u.panel
  pub characteristics : v.characteristics ≡ u.characteristics
  pub lengths : v.lengths ≡ u.lengths
  pub pointer : v.registers.pointer ≡ u.registers.pointer
  pub rmr : v.registers.rmr ≡ u.registers.rmr
  pub nba : v.registers.nba ≡ u.registers.nba
  pub class : v.registers.class ≡ k
  pub ssr : v.registers.ssr ≡ true

ends_with : (u : Unit) (t : Tape) (class : ℕ) (a : Attention) → EndsAs u t class (with_attention (ended (with_tape u t) class) a)
unfolding ended
ends_with u t class a =
    record {
      tape = refl;
      panel = refl;
      characteristics = refl;
      lengths = refl;
      pointer = refl;
      rmr = refl;
      nba = refl;
      class = refl;
      ssr = refl;
    }

pub told_ends : (u : Unit) (ie : Bool) (x : Ending) → EndsAs u x.tape x.end.class (told u ie x).unit
unfolding told_under told_unit
told_ends u ie x = ends_with u x.tape x.end.class _

pub untold_ends : (u : Unit) (class : ℕ) (interrupts : Bool) → EndsAs u u.tape class (untold u class interrupts).unit
unfolding untold still
untold_ends u class interrupts = ends_with u u.tape class _

-- a legal state stays one, if the tape that is left fits the reel
pub ends_legal : (u : Unit) → Legal u → {t : Tape} {class : ℕ} {v : Unit} → EndsAs u t class v → t.position ≤ t.end → t.end ≤ u.lengths.blocks → class ≤ last_class → Legal v
ends_legal u l {v = v} e place capacity h =
    legal_with u v l e.lengths
    (rw e.tape place)
    (rw (e.tape, e.lengths) capacity)
    (rw e.pointer l.pointer)
    (rw e.class h)
    (λ n. rw (e.characteristics, e.lengths) (l.buffer (rw e.nba at n)))

-- "A message goes out only if NBA is clear."
pub told_sends : (u : Unit) (ie : Bool) (x : Ending) → (told u ie x).sends ≡ true → u.registers.nba ≡ false
unfolding told_under told_unit ended
told_sends u ie x = not-true u.registers.nba

-- what holds of every end that is told and of every fault holds of every motion
pub motion_either : (u : Unit) (ie : Bool) (P : Plan → Type 0) (y : Result Ending Damage) → ((x : Ending) → y ≡ Ok x → P (told u ie x)) → ((why : BlockFault) (k : ℕ) → y ≡ Err (damage why k) → P (still u (bad_block why k))) → P (motion_plan u ie y)
unfolding motion_plan_under
motion_either u ie P (Ok x) p q = p x refl
motion_either u ie P (Err d) p q = q d.fault d.block refl

pub record StoresNothing (p : Plan) : Type 0 where
  pub moved : p.moved ≡ no_move
  pub laid : p.laid ≡ no_lay
  pub sends : p.sends ≡ false

pub still_stores_nothing : (u : Unit) (a : Answer) → StoresNothing (still u a)
unfolding still
still_stores_nothing u a = record { moved = refl; laid = refl; sends = refl }

pub untold_stores_nothing : (u : Unit) (class : ℕ) (interrupts : Bool) → StoresNothing (untold u class interrupts)
unfolding untold
untold_stores_nothing u class interrupts = still_stores_nothing _ _
