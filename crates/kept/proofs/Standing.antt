-- What an end of a command keeps: the tape stands well on the reel as it is laid, and no block is at fault.
use mathlib.Core.Bool.{Bool}
use mathlib.Core.List.{List}
use mathlib.Core.Path.{◌≡◌, refl}
use Prim.Native.Nat.{ℕ}
use Rattle.tape.specs.Objects.{Holds, Object, images_of}
use Rattle.tape.proofs.Accepted.{clash}
use Rattle.tape.specs.declared.BlockFault.{BlockFault}
use Rattle.state.specs.declared.Unit.{Unit}
use Rattle.moves.specs.Between.{Bound}
use Rattle.motions.specs.Parts.{no_lay, standing}
use Rattle.motions.specs.declared.parts.Ending.{Ending}
use Rattle.commands.specs.Answers.{bad_block}
use Rattle.commands.specs.Ends.{ended, motion_plan, motion_plan_under, still, told, told_under, told_unit, untold}
use Rattle.commands.specs.Answers.{Answer}
use Rattle.commands.specs.declared.plans.Plan.{Plan}
use Rattle.storing.specs.Stored.{laid_object, laid_objects, laid_on, reel_after}
use Rattle.kept.specs.Formed.{Formed}
use Rattle.std.specs.Prelude.{Result, Ok, Err}
use Rattle.tape.specs.declared.Damage.{Damage}

-- a motion ends, with no block at fault, and its tape stands well on the reel as it is laid
abbrev pub KeptMotion : List ℕ → List ℕ → Result Ending Damage → Type 0
KeptMotion s m (Ok x) = Formed (laid_on s m x.laid) x.tape
KeptMotion s m (Err d) = ⊥

-- a plan names no block at fault, and its tape stands well on the reel that it leaves
pub record KeptPlan (s m : List ℕ) (p : Plan) : Type 0 where
  pub stands : Formed (reel_after p m s) p.unit.tape
  pub sound : (why : BlockFault) (k : ℕ) → p.answer ≡ bad_block why k → ⊥

-- a reel on which nothing is laid stays as it was
pub unlaid : (s m : List ℕ) → laid_on s m no_lay ≡ s
unfolding laid_on laid_objects laid_object images_of
unlaid s m = refl

module _ (s m : List ℕ) {e : ℕ} {os : List Object} (h : Holds s e os) where
  -- so a motion that lays nothing may end at any bound
  pub halts : {q : ℕ} → Bound os q → Formed (laid_on s m no_lay) (standing q e)
  halts b = rw (unlaid s m) (os, h, b)

module _ (s m : List ℕ) where
  pub told_kept : (u : Unit) (ie : Bool) (x : Ending) → Formed (laid_on s m x.laid) x.tape → KeptPlan s m (told u ie x)
  unfolding told_under told_unit ended reel_after
  told_kept u ie x k = record { stands = k; sound = λ why b c. clash (cc) }

  pub still_kept : (u : Unit) (a : Answer) → Formed s u.tape → ((why : BlockFault) (k : ℕ) → a ≡ bad_block why k → ⊥) → KeptPlan s m (still u a)
  unfolding still reel_after
  still_kept u a k f = record { stands = rw (unlaid s m) k; sound = f }

  pub untold_kept : (u : Unit) (class : ℕ) (interrupts : Bool) → Formed s u.tape → KeptPlan s m (untold u class interrupts)
  unfolding untold ended
  untold_kept u class interrupts k = still_kept _ _ k (λ why b c. clash (cc))

  pub motion_kept : (u : Unit) (ie : Bool) (y : Result Ending Damage) → KeptMotion s m y → KeptPlan s m (motion_plan u ie y)
  unfolding motion_plan_under
  motion_kept u ie (Ok x) k = told_kept u ie x k
  motion_kept u ie (Err d) k = absurd k
