-- Blocks at or above the recorded end play no part in a pass.
use mathlib.Core.Path.{◌≡◌, refl, sym, ap, ◌∙◌}
use mathlib.Core.Bool.{Bool, true, false, ◌&&◌, and-eq-true_iff}
use mathlib.Core.List.{List}
use Prim.Native.Nat.{ℕ, zero, suc, ◌+◌, ◌-◌, ◌*◌, ◌≤◌, ◌<◌}
use native.Mathlib.Omega.{arith}
use borrow.Author.Tests.{eqb-false, leb-true}
use lib.Dec.{eqb, leb}
use lib.ListN.{length, take}
use Rattle.lists.specs.Pick.{pick}
use Rattle.tape.specs.Numbers.{block_bytes, pieces_of, record_limit}
use Rattle.tape.specs.Pass.{ahead, beyond, first_met, lowest, met_by_under, order_met, passed, passed_under, pieces_met_under, record_met_under}
use Rattle.tape.specs.Reading.{block_at, class_at, class_at_under}
use Rattle.tape.specs.declared.Block.{Block}
use Rattle.tape.specs.declared.Block.TheVariants as block
use Rattle.tape.specs.declared.Met.{Met}
use Rattle.tape.specs.declared.Met.TheVariants as met
use Rattle.tape.proofs.Passes.{class_at_lem, order_below}
use Rattle.tape.proofs.Runs.{part_of_front}
use Rattle.std.specs.Prelude.{Result, Ok, Err}
use Rattle.tape.specs.declared.BlockFault.{BlockFault}

-- a choice between answers that agree, each where it is chosen
pub pick_agree : {A : Type 0} (t : Bool) (x x' y y' : A) → (t ≡ true → x ≡ x') → (t ≡ false → y ≡ y') → pick t x y ≡ pick t x' y'
pick_agree true x x' y y' f g = f refl
pick_agree false x x' y y' f g = g refl

first_below : (reverse : Bool) (q e : ℕ) → q ≤ e → eqb (ahead reverse q e) 0 ≡ false → first_met reverse q < e
first_below true q e h k = omega (arith, eqb-false q 0 k)
first_below false q e h k = omega (arith, eqb-false (e - q) 0 k)

pub lowest_below : (reverse : Bool) (q e m : ℕ) → q ≤ e → m ≤ ahead reverse q e → lowest reverse q m + m ≤ e
lowest_below true q e m h k = omega arith
lowest_below false q e m h k = omega arith

-- two reels whose blocks below e are read alike, by units of any record limits
module _ (limit limit' : ℕ) (s s' : List ℕ) (reverse : Bool) (e : ℕ) (same : (k : ℕ) → k < e → class_at_under limit s k ≡ class_at_under limit' s' k) where
  pieces_agree : (n p m j c : ℕ) (whole : Met) → p + m ≤ e → c ≤ m - j → pieces_met_under limit s reverse n p m j c whole ≡ pieces_met_under limit' s' reverse n p m j c whole
  unfolding pieces_met_under
  pieces_agree n p m j zero whole h k = refl
  pieces_agree n p m j (suc c) whole h k =
      let i : ℕ = order_met reverse m j in
      let l : i < m = order_below reverse m j (omega arith) in
      rw (same (p + i) (omega arith), pieces_agree n p m (suc j) c whole h (omega arith))

  record_agree : (q n i : ℕ) → q ≤ e → record_met_under limit s reverse q e n i ≡ record_met_under limit' s' reverse q e n i
  unfolding record_met_under
  record_agree q n i h =
      let m : ℕ = pieces_of n in
      let p : ℕ = lowest reverse q m in
      let fits : Bool = leb m (ahead reverse q e) in
      let met-first : Bool = eqb i (order_met reverse m 0) in
      pick_agree (met-first && fits) _ _ _ _
      (λ t. pieces_agree n p m 1 (m - 1) (met.Record n (beyond reverse q m)) (lowest_below reverse q e m h (leb-true _ _ ((and-eq-true_iff met-first fits).0 t).1)) (omega arith))
      (λ t. refl)

  by_agree : (q : ℕ) (b : Result Block BlockFault) → q ≤ e → met_by_under limit s reverse q e b ≡ met_by_under limit' s' reverse q e b
  unfolding met_by_under
  by_agree q (Ok (block.Piece n i)) h = record_agree q n i h
  by_agree q (Ok block.Mark) h = refl
  by_agree q (Ok block.Gap) h = refl
  by_agree q (Err f) h = refl

  pub pass_agree : (q : ℕ) → q ≤ e → passed_under limit s reverse q e ≡ passed_under limit' s' reverse q e
  unfolding passed_under
  pass_agree q h =
      pick_agree (eqb (ahead reverse q e) 0) _ _ _ _ (λ t. refl) (λ t. rw (same (first_met reverse q) (first_below reverse q e h t)) (by_agree q (class_at_under limit' s' (first_met reverse q)) h))

module _ (s s' : List ℕ) (e : ℕ) (room : block_bytes * e ≤ length s) (room' : block_bytes * e ≤ length s') (same : take (block_bytes * e) s ≡ take (block_bytes * e) s') where
  block_agree : (k : ℕ) → k < e → block_at s k ≡ block_at s' k
  block_agree k h =
      sym (part_of_front block_bytes (block_bytes * k) (block_bytes * e) s (omega arith))
      ∙ ap (λ (l : List ℕ). block_at l k) same
      ∙ part_of_front block_bytes (block_bytes * k) (block_bytes * e) s' (omega arith)

  pub class_agree : (k : ℕ) → k < e → class_at s k ≡ class_at s' k
  class_agree k h = class_at_lem s (block_at s' k) k (omega arith) (block_agree k h) ∙ sym (class_at_lem s' (block_at s' k) k (omega arith) refl)

  pub pass_below : (reverse : Bool) (p : ℕ) → p ≤ e → passed s reverse p e ≡ passed s' reverse p e
  pass_below reverse p h = pass_agree record_limit record_limit s s' reverse e class_agree p h
