-- The first n objects of a list: how many blocks they have, and that these rise from one to the next.
use mathlib.Core.Path.{◌≡◌, ap, ◌∙◌}
use mathlib.Core.List.{List, [], ◌∷◌, ◌++◌}
use Prim.Native.Nat.{ℕ, suc, ◌+◌, ◌-◌, ◌≤◌, ◌<◌}
use native.Mathlib.Numerals.{add-one}
use native.Mathlib.Omega.{arith}
use lib.ListN.{drop, get_or, length, take}
use lib.Seq.{split_at, take-add, take-suc}
use Rattle.tape.specs.Objects.{AllAllowed, Allowed, Object, also, blocks_in, blocks_of, gap, none}
use Rattle.tape.proofs.Images.{blocks_append, one_or_more}
use Rattle.tape.proofs.Passes.{allowed_at}

module _ (os : List Object) where
  -- object n, where there is one
  abbrev pub nth : ℕ → Object
  nth n = get_or os n gap

  pub front_more : (n : ℕ) → n < length os → take (n + 1) os ≡ take n os ++ nth n ∷ []
  front_more n h = rw (add-one n) (take-suc os n gap h)

  pub front_split : (i j : ℕ) → i ≤ j → take j os ≡ take i os ++ take (j - i) (drop i os)
  front_split i j h =
      let e : j ≡ i + (j - i) = omega arith in
      ap (λ (n : ℕ). take n os) e ∙ take-add i (j - i) os

  pub blocks_more : (n : ℕ) → n < length os → blocks_of (take (n + 1) os) ≡ blocks_of (take n os) + blocks_in (nth n)
  unfolding blocks_of
  blocks_more n h = omega (arith, ap blocks_of (front_more n h), blocks_append (take n os) (nth n ∷ []))

  pub blocks_low : (i j : ℕ) → i ≤ j → blocks_of (take i os) ≤ blocks_of (take j os)
  blocks_low i j h = omega (arith, ap blocks_of (front_split i j h), blocks_append (take i os) (take (j - i) (drop i os)))

  pub allowed_nth : AllAllowed os → (n : ℕ) → n < length os → Allowed (nth n)
  allowed_nth a n h = allowed_at (take n os) (nth n) (drop (suc n) os) (rw (split_at os n gap h) at a)

  pub blocks_rise : AllAllowed os → (i j : ℕ) → i < j → i < length os → blocks_of (take i os) < blocks_of (take j os)
  blocks_rise a i j h l = omega (arith, blocks_more i l, blocks_low (i + 1) j (omega arith), one_or_more (nth i) (allowed_nth a i l))

-- so there are no more objects than blocks
pub objects_few : {os : List Object} → AllAllowed os → length os ≤ blocks_of os
unfolding blocks_of
objects_few none = omega arith
objects_few (also {o = o} a all) = omega (arith, one_or_more o a, objects_few all)
