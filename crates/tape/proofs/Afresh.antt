-- The objects worked out afresh are those that a well formed reel holds.
use mathlib.Core.Path.{◌≡◌, refl, ap}
use mathlib.Core.List.{List, [], ◌∷◌, ◌++◌, append-nil, append_assoc}
use Prim.Native.Nat.{ℕ, zero, suc, ◌≤◌}
use native.Mathlib.Omega.{arith}
use Rattle.lists.specs.Words.{Bytes}
use Rattle.tape.specs.Afresh.{met_then, objects_from, objects_in}
use Rattle.tape.specs.Meeting.{met_as}
use Rattle.tape.specs.Objects.{Allowed, Holds, Object, StandsAt, blocks_of, gap, mark, record_of}
use Rattle.tape.specs.Sweep.{swept_below}
use Rattle.tape.proofs.Images.{one_or_more}
use Rattle.tape.proofs.Passes.{allowed_at, forward_ends, forward_meets}
use Rattle.tape.proofs.Recorded.{record_stands}
use Rattle.tape.proofs.Standing.{stands_in}
use Rattle.tape.proofs.Sweeps.{whole_swept}
use Rattle.std.specs.Prelude.{Ok}

-- an object that stands at p is taken as itself
met_is : (s : List ℕ) (p q : ℕ) (o : Object) (onward : ℕ → List Object) → Allowed o → StandsAt s p o → met_then s p (met_as o q) onward ≡ o ∷ onward q
unfolding met_then met_as
met_is s p q (record_of d) onward a h = ap (λ (x : List ℕ). record_of x ∷ onward q) (record_stands s p d h a.0 a.1)
met_is s p q mark onward a h = refl
met_is s p q gap onward a h = refl

module _ (s : List ℕ) (e : ℕ) where
  -- there are turns for all that are left
  objects_from_lem : (turns : ℕ) (before after : List Object) → Holds s e (before ++ after) → blocks_of after ≤ turns → objects_from turns s (blocks_of before) e ≡ after
  unfolding objects_from blocks_of met_then
  objects_from_lem zero before [] h k = refl
  objects_from_lem zero before (o ∷ after) h k = absurd (omega (arith, one_or_more o (allowed_at before o after h.allowed)))
  objects_from_lem (suc turns) before [] h k =
      let end : blocks_of before ≡ e = rw append-nil at h.ends in
      rw (end, forward_ends s e)
  objects_from_lem (suc turns) before (o ∷ after) h k =
      let a : Allowed o = allowed_at before o after h.allowed in
      rw (forward_meets before o after h, met_is s (blocks_of before) (blocks_of (before ++ o ∷ [])) o (λ q. objects_from turns s q e) a (stands_in before o after h))
      (ap (λ (l : List Object). o ∷ l) (objects_from_lem turns (before ++ o ∷ []) after (rw append_assoc h) (omega (arith, one_or_more o a))))

pub objects_are : {s : List ℕ} {e : ℕ} {os : List Object} → Holds s e os → objects_in s e ≡ os
unfolding objects_in blocks_of
objects_are {s} {e} {os} h = objects_from_lem s e e [] os h (omega (arith, h.ends))

-- and a reel whose sweep finds nothing holds them
pub objects_held : {s : List ℕ} {e : ℕ} → Bytes s → swept_below s e ≡ Ok tt → Holds s e (objects_in s e)
objects_held {s} {e} bytes w =
    let h = whole_swept s e bytes w in
    rw (objects_are h.1) h.1
