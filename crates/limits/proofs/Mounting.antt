-- Mounting one reel with units of different record limits.
use mathlib.Core.Bool.{Bool}
use mathlib.Core.List.{List, [], ◌∷◌, ◌++◌}
use mathlib.Core.Logic.{◌⊎◌, inl, inr}
use mathlib.Core.Path.{◌≡◌, refl, ap}
use Prim.Native.Nat.{ℕ, ◌+◌, ◌/◌, ◌<◌, ◌≤◌}
use native.Mathlib.Omega.{arith}
use borrow.Author.Tests.{leb-false, leb-true}
use lib.Dec.{leb}
use lib.ListN.{length}
use Rattle.lists.proofs.Cases.{by_test}
use Rattle.tape.specs.Numbers.{block_bytes, record_limit}
use Rattle.tape.specs.Objects.{AllAllowedUnder, AllowedUnder, Holds, HoldsUnder, Object, also, blocks_in, blocks_of, gap, mark, none, record_of}
use Rattle.tape.specs.declared.BlockFault.TheVariants as fault
use Rattle.tape.proofs.Limits.{holds_raised, piece_at}
use Rattle.tape.proofs.Passes.{allowed_at, class_stands}
use Rattle.tape.proofs.Standing.{stands_below, stands_in}
use Rattle.tape.proofs.Sweeps.{swept_over, swept_under}
use Rattle.tape.proofs.Written.{holds_front}
use Rattle.state.specs.Changes.{mounted_as}
use Rattle.std.specs.Prelude.{Ok, Err}
use Rattle.state.specs.declared.refusal.Refusal.TheVariants as refusal
use Rattle.unit.specs.Mounts.{mount_call_under, mount_refusal, mount_swept}
use Rattle.limits.specs.Raised.{LongerAt}

module _ (limit : ℕ) (memory : ℕ) (s : List ℕ) (e : ℕ) (online locked : Bool) (right : mount_refusal memory (length s) e ≡ Ok tt) where
  pub mount_takes : {os : List Object} → Holds s e os → AllAllowedUnder limit os
      → mount_call_under limit memory s e online locked ≡ Ok (mounted_as e online locked (record { memory = memory; blocks = length s / block_bytes }))
  unfolding mount_call_under mount_swept
  mount_takes h all = rw (right, swept_under limit s e h all)

  pub mount_refuses : {limit' p : ℕ} → limit ≤ record_limit → LongerAt limit limit' s e p → mount_call_under limit memory s e online locked ≡ Err (refusal.BadBlock (record { fault = fault.Length; block = p }))
  unfolding mount_call_under mount_swept
  mount_refuses {limit'} {p} most k =
      rw (right, swept_over limit s e p k.bytes 0 limit' k.piece k.longer k.below (holds_raised most k.formed) k.formed.allowed)

-- the first object of a list that is longer than a limit, if one is
data Split (limit : ℕ) (os : List Object) : Type 0 where
  all_short : AllAllowedUnder limit os → Split limit os
  one_longer : (before : List Object) (d : List ℕ) (after : List Object) → os ≡ before ++ record_of d ∷ after → AllAllowedUnder limit before → limit < length d → Split limit os

split_on : {limit : ℕ} (o : Object) {os : List Object} → AllowedUnder limit o → Split limit os → Split limit (o ∷ os)
split_on o a (all_short all) = all_short (also a all)
split_on o a (one_longer before d after e all l) = one_longer (o ∷ before) d after (ap (λ (xs : List Object). o ∷ xs) e) (also a all) l

split : (limit : ℕ) {limit' : ℕ} {os : List Object} → AllAllowedUnder limit' os → Split limit os
split limit none = all_short none
split limit (also {o = record_of d} {os = os} a h) =
    by_test (leb (length d) limit) (λ t. split_on (record_of d) (a.0, leb-true (length d) limit t) (split limit h)) (λ t. one_longer [] d os refl none (leb-false (length d) limit t))
split limit (also {o = mark} a h) = split_on mark tt (split limit h)
split limit (also {o = gap} a h) = split_on gap tt (split limit h)

-- a reel that is well formed under a limit is so under a lower one, or a longer record begins on it
module _ (limit limit' : ℕ) (most : limit' ≤ record_limit) {s : List ℕ} {e : ℕ} where
  at_longer : (before : List Object) (d : List ℕ) (after : List Object) → HoldsUnder limit' s e (before ++ record_of d ∷ after) → AllAllowedUnder limit before → limit < length d → LongerAt limit limit' s e (blocks_of before)
  unfolding blocks_in
  at_longer before d after h all l =
      let k : Holds s e (before ++ record_of d ∷ after) = holds_raised most h in
      let front = holds_front before (record_of d ∷ after) k in
      let a : AllowedUnder limit' (record_of d) = allowed_at before (record_of d) after h.allowed in
      let first = class_stands s (blocks_of before) d (stands_in before (record_of d) after k) (allowed_at before (record_of d) after k.allowed) 0 (omega (arith, a.0)) in
      let here : blocks_of before + 0 ≡ blocks_of before = omega arith in
      record {
        before = before;
        formed = record { allowed = all; ends = front.ends; image = front.image };
        below = omega (arith, stands_below before (record_of d) after k, a.0);
        bytes = length d;
        piece = piece_at limit' s (blocks_of before) (rw here at first) a.1;
        longer = l;
      }

  pub holds_or_longer : {os : List Object} → HoldsUnder limit' s e os → HoldsUnder limit s e os ⊎ ((p : ℕ) × LongerAt limit limit' s e p)
  holds_or_longer {os} h = by_split (split limit h.allowed)
    where
      by_split : Split limit os → HoldsUnder limit s e os ⊎ ((p : ℕ) × LongerAt limit limit' s e p)
      by_split (all_short all) = inl (record { allowed = all; ends = h.ends; image = h.image })
      by_split (one_longer before d after z all l) = inr (blocks_of before, at_longer before d after (rw z at h) all l)
