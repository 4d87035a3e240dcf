-- A search, turn by turn: what holds where it began and behind each gap holds where it met what it found.
use mathlib.Core.Bool.{Bool}
use mathlib.Core.List.{List}
use mathlib.Core.Path.{◌≡◌, refl}
use Prim.Native.Nat.{ℕ, zero, suc, ◌≤◌}
use native.Mathlib.Omega.{arith}
use Rattle.lists.specs.Pick.{Always}
use Rattle.tape.specs.Pass.{ahead, passed}
use Rattle.tape.specs.declared.Met.{Met}
use Rattle.tape.specs.declared.Met.TheVariants as met
use Rattle.tape.proofs.Within.{Onward, PassIn, fewer_ahead, pass_in}
use Rattle.tape.specs.declared.BlockFault.{BlockFault}
use Rattle.state.specs.declared.Unit.{Unit}
use Rattle.moves.specs.Seeking.{sought, sought_under, sought_from, sought_from_under, sought_on}
use Rattle.moves.specs.declared.seeking.Sought.{Sought}
use Rattle.moves.specs.declared.seeking.Sought.TheVariants as sought-as
use Rattle.moves.proofs.Finds.{ahead_most}
use Rattle.motions.specs.declared.parts.Ending.{Ending}
use Rattle.std.specs.Prelude.{Result, Ok, Err}
use Rattle.commands.specs.Ends.{motion_plan, motion_plan_under, still, told_under}
use Rattle.state.proofs.Behind.{InBlock}
use Rattle.tape.specs.declared.Damage.{Damage}
use Rattle.commands.specs.Answers.{Answer}
use Rattle.commands.specs.declared.plans.Done.TheVariants as answer

-- a search from p: At holds where it began and behind each gap, and so where it met what it found; where it found nothing, nothing more lies ahead,
-- if it began inside the recorded part
module _ (s : List ℕ) (e : ℕ) (reverse : Bool) (At : ℕ → Type 0) (behind : (q t : ℕ) → At q → passed s reverse q e ≡ Ok (met.Gap t) → At t) (p : ℕ) where
  abbrev pub Meets : Result Sought Damage → Type 0
  Meets (Ok (sought-as.Record n t)) = (q : ℕ) × At q × (passed s reverse q e ≡ Ok (met.Record n t))
  Meets (Ok (sought-as.Mark t)) = (q : ℕ) × At q × (passed s reverse q e ≡ Ok (met.Mark t))
  Meets (Ok (sought-as.Nothing q)) = At q × (p ≤ e → ahead reverse q e ≡ 0)
  Meets (Err d) = (q : ℕ) × At q × (passed s reverse q e ≡ Err d)

  meets_on : (q : ℕ) (x : Result Met Damage) (onward : ℕ → Result Sought Damage) → At q → passed s reverse q e ≡ x → (p ≤ e → PassIn reverse q e x)
      → ((t : ℕ) → (p ≤ e → Onward reverse q e t) → At t → Meets (onward t)) → Meets (sought_on x q onward)
  unfolding sought_on
  meets_on q (Ok (met.Record n t)) onward a y i on = (q, a, y)
  meets_on q (Ok (met.Mark t)) onward a y i on = (q, a, y)
  meets_on q (Ok (met.Gap t)) onward a y i on = on t i (behind q t a y)
  meets_on q (Ok met.Nothing) onward a y i on = (a, i)
  meets_on q (Err d) onward a y i on = (q, a, y)

  -- a gap takes a block, so the turns are enough
  meets_from : (turns q : ℕ) → (p ≤ e → (q ≤ e) × (ahead reverse q e ≤ turns)) → At q → Meets (sought_from turns s reverse q e)
  unfolding sought_from_under
  meets_from zero q l a = (a, λ h. omega (arith, (l h).1))
  meets_from (suc turns) q l a =
      meets_on q (passed s reverse q e) (λ t. sought_from turns s reverse t e) a refl (λ h. pass_in s reverse q e (l h).0)
      (λ t o b. meets_from turns t (λ h. ((o h).below, omega (arith, (l h).1, fewer_ahead reverse q e t (l h).0 (o h)))) b)

  pub meets : At p → Meets (sought s reverse p e)
  unfolding sought_under
  meets a = meets_from e p (λ h. (h, ahead_most reverse p e h)) a

-- where a search from inside the recorded part finds nothing, nothing more lies ahead
pub nothing_ahead : (s : List ℕ) (e : ℕ) (reverse : Bool) (p : ℕ) {q : ℕ} → p ≤ e → sought s reverse p e ≡ Ok (sought-as.Nothing q) → ahead reverse q e ≡ 0
nothing_ahead s e reverse p h none = (rw none at (meets s e reverse (λ q. Always) (λ q t a y. tt) p tt)).1 h

-- how a motion came out: Q of its ending, or F of the block that refuses it
abbrev pub Comes : (Ending → Type 0) → (BlockFault → ℕ → Type 0) → Result Ending Damage → Type 0
Comes Q F (Ok x) = Q x
Comes Q F (Err d) = F d.fault d.block

-- and a plan's answer: F of the block that it names
abbrev pub Answers : (BlockFault → ℕ → Type 0) → Answer → Type 0
Answers F (Ok (answer.Step i)) = Always
Answers F (Ok answer.Idle) = Always
Answers F (Err r) = InBlock F Always r

-- a motion's fault is its plan's answer
pub motion_answers : (Q : Ending → Type 0) (F : BlockFault → ℕ → Type 0) (u : Unit) (ie : Bool) (x : Result Ending Damage) → Comes Q F x → Answers F (motion_plan u ie x).answer
unfolding motion_plan_under told_under still
motion_answers Q F u ie (Ok x) c = tt
motion_answers Q F u ie (Err d) c = c
