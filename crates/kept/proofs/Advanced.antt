-- An advance keeps the reel well formed and the position a bound, and on such a reel it never names a block at fault.
use mathlib.Core.List.{List}
use mathlib.Core.Path.{◌≡◌}
use Prim.Native.Nat.{ℕ, ◌*◌}
use lib.ListN.{length}
use Rattle.tape.specs.Numbers.{block_bytes}
use Rattle.tape.specs.Objects.{Holds, Object}
use Rattle.tape.proofs.Accepted.{clash}
use Rattle.tape.specs.declared.BlockFault.{BlockFault}
use Rattle.signals.specs.Codes.{command_of}
use Rattle.state.specs.declared.Unit.{Unit}
use Rattle.moves.specs.Between.{Bound}
use Rattle.std.specs.Prelude.{Ok}
use Rattle.commands.specs.Answers.{bad_block}
use Rattle.commands.specs.declared.plans.Done.TheVariants as answer
use Rattle.storing.specs.Stored.{reel_after}
use Rattle.advance.specs.Steps.{advanced}
use Rattle.advance.proofs.Walk.{Akin, Carries, Rejects, Untold, advanced_all}
use Rattle.kept.specs.Formed.{Formed}
use Rattle.kept.proofs.Carrying.{carried_kept, rests}
use Rattle.kept.proofs.Lengths.{right_count}
use Rattle.kept.proofs.Standing.{KeptPlan, still_kept, untold_kept}

module _ (s m : List ℕ) (u : Unit) (w : length s ≡ block_bytes * u.lengths.blocks) (k : Formed s u.tape) where
  -- in every state that a step leaves
  still_formed : (v : Unit) → Akin u v → Formed s v.tape
  still_formed v a = rw a.tape k

  rejects : Rejects u (KeptPlan s m)
  rejects v a ie x h = rests s m v ie x v.tape (still_formed v a)

  untolds : Untold u (KeptPlan s m)
  untolds v a class interrupts h = untold_kept s m v class interrupts (still_formed v a)

  carries : Carries u m s (KeptPlan s m)
  carries v a h p f d =
      carried_kept s m v (rw a.lengths w) (still_formed v a) h p (command_of h.code h.mode) (right_count h p.count f)

  plan_kept : KeptPlan s m (advanced u m s)
  plan_kept = advanced_all u m s (KeptPlan s m) rejects untolds carries (still_kept s m u (Ok answer.Idle) k (λ why b c. clash (cc)))

module _ (u : Unit) (m s : List ℕ) {os : List Object} (w : length s ≡ block_bytes * u.lengths.blocks) (h : Holds s u.tape.end os) (b : Bound os u.tape.position) where
  pub advanced_kept : Formed (reel_after (advanced u m s) m s) (advanced u m s).unit.tape
  advanced_kept = (plan_kept s m u w (os, h, b)).stands

  pub advanced_no_fault : (why : BlockFault) (k : ℕ) → (advanced u m s).answer ≡ bad_block why k → ⊥
  advanced_no_fault = (plan_kept s m u w (os, h, b)).sound
