-- One reel to units of different record limits. "Every reel stored under the old limit reads the same ..; a unit of the old limit that meets a longer
-- record refuses the mount with 7 at its first block." (02, [7]) Every number up to this unit's own limit is such a limit.
use mathlib.Core.Path.{◌≡◌, sym, ◌∙◌}
use mathlib.Core.Bool.{Bool, and-eq-true_iff}
use mathlib.Core.List.{List, [], ◌∷◌, ◌++◌, append_assoc, append-nil}
use Prim.Native.Nat.{ℕ, ◌+◌, ◌-◌, ◌/◌, ◌≤◌, ◌<◌}
use native.Mathlib.Omega.{arith}
use borrow.Author.Tests.{eq-eqb, le-leb, lt-leb, ltb-false, ltb-true}
use lib.Dec.{leb, ltb}
use lib.ListN.{length}
use Rattle.lists.specs.Pick.{Always}
use Rattle.lists.proofs.Cases.{by_test}
use Rattle.tape.specs.Meeting.{met_as}
use Rattle.tape.specs.Numbers.{block_bytes, pieces_of, record_limit}
use Rattle.tape.specs.Objects.{AllAllowedUnder, AllowedUnder, Holds, HoldsUnder, Object, also, blocks_in, blocks_of, gap, mark, none, record_of}
use Rattle.tape.specs.Pass.{ahead, lowest, met_by_under, passed, passed_under}
use Rattle.tape.specs.Reading.{block_at, class_at, class_at_under, class_by_under, class_of, class_of_under}
use Rattle.tape.specs.declared.Block.{Block}
use Rattle.tape.specs.declared.Block.TheVariants as block
use Rattle.tape.specs.declared.BlockFault.TheVariants as fault
use Rattle.tape.specs.declared.Met.{Met}
use Rattle.tape.specs.declared.Met.TheVariants as met
use Rattle.tape.proofs.Accepted.{accepted_gap, accepted_mark, accepted_piece, clash, pick_first}
use Rattle.tape.proofs.Below.{pass_agree}
use Rattle.tape.proofs.Images.{blocks_append}
use Rattle.tape.proofs.Outcomes.{Outcome, at_end, at_fault, outcome, over_gap, over_mark, over_record}
use Rattle.tape.proofs.Passes.{allowed_at, class_gap, class_mark, class_stands, first_alone, met_record, passed_by}
use Rattle.tape.proofs.Standing.{stands_in}
use Rattle.std.specs.Prelude.{Result, Ok, Err}
use Rattle.tape.specs.declared.Damage.{Damage}
use Rattle.tape.specs.declared.BlockFault.{BlockFault}

-- a record no longer than the one limit is none longer than a higher one: the same objects, and so a reel well formed under the one is under the other
pub allowed_raised : {limit limit' : ℕ} (o : Object) → limit ≤ limit' → AllowedUnder limit o → AllowedUnder limit' o
allowed_raised (record_of d) l a = (a.0, omega (arith, a.1))
allowed_raised mark l a = tt
allowed_raised gap l a = tt

pub all_raised : {limit limit' : ℕ} {os : List Object} → limit ≤ limit' → AllAllowedUnder limit os → AllAllowedUnder limit' os
all_raised l none = none
all_raised l (also {o = o} a h) = also (allowed_raised o l a) (all_raised l h)

pub holds_raised : {limit limit' : ℕ} {s : List ℕ} {e : ℕ} {os : List Object} → limit ≤ limit' → HoldsUnder limit s e os → HoldsUnder limit' s e os
holds_raised l h = record { allowed = all_raised l h.allowed; ends = h.ends; image = h.image }

module _ (limit : ℕ) where
  -- what any unit reads as a piece is the same piece, if its record is no longer than the limit; else its length is what is wrong with it
  piece_under : (other : ℕ) (b : List ℕ) (n i : ℕ) → class_of_under other b ≡ Ok (block.Piece n i) → n ≤ limit → class_of_under limit b ≡ Ok (block.Piece n i)
  unfolding class_of_under class_by_under
  piece_under other b n i e l =
      let a = accepted_piece other b n i e in
      rw (a.kind, a.size, a.index, ((and-eq-true_iff (leb 1 n) _).0 a.sized).0, le-leb n limit l, a.indexed, a.padding, a.check)

  piece_over : (other : ℕ) (b : List ℕ) (n i : ℕ) → class_of_under other b ≡ Ok (block.Piece n i) → limit < n → class_of_under limit b ≡ Err fault.Length
  unfolding class_of_under class_by_under
  piece_over other b n i e l =
      let a = accepted_piece other b n i e in
      rw (a.kind, a.size, ((and-eq-true_iff (leb 1 n) _).0 a.sized).0, lt-leb n limit l)

  -- a mark or gap is the same to all
  mark_under : (b : List ℕ) → class_of b ≡ Ok block.Mark → class_of_under limit b ≡ Ok block.Mark
  unfolding class_of_under class_by_under
  mark_under b e =
      let a = accepted_mark record_limit b e in
      rw (a.kind, a.size, a.index, a.padding, a.check)

  gap_under : (b : List ℕ) → class_of b ≡ Ok block.Gap → class_of_under limit b ≡ Ok block.Gap
  unfolding class_of_under class_by_under
  gap_under b e =
      let a = accepted_gap record_limit b e in
      rw (a.kind, a.size, a.index, a.padding, a.check)

  -- the same of a block on a reel: what holds of the blocks that the slice holds
  class_within : (other : ℕ) (s : List ℕ) (k : ℕ) {b c : Result Block BlockFault} → class_at_under other s k ≡ b → (Err fault.Index ≡ b → ⊥) → (class_of_under other (block_at s k) ≡ b → class_of_under limit (block_at s k) ≡ c) → class_at_under limit s k ≡ c
  unfolding class_at_under
  class_within other s k {b} {c} e f on =
      let p = pick_first (ltb k (length s / block_bytes)) (class_of_under other (block_at s k)) (Err fault.Index) b e f in
      rw p.0 (on p.1)

  pub piece_at : (s : List ℕ) (k : ℕ) {n i : ℕ} → class_at s k ≡ Ok (block.Piece n i) → n ≤ limit → class_at_under limit s k ≡ Ok (block.Piece n i)
  piece_at s k {n} {i} e l = class_within record_limit s k e (λ h. clash cc) (λ c. piece_under record_limit (block_at s k) n i c l)

  pub long_at_lem : (other : ℕ) (s : List ℕ) (k : ℕ) {n i : ℕ} → class_at_under other s k ≡ Ok (block.Piece n i) → limit < n → class_at_under limit s k ≡ Err fault.Length
  long_at_lem other s k {n} {i} e l = class_within other s k e (λ h. clash cc) (λ c. piece_over other (block_at s k) n i c l)

  pub mark_at : (s : List ℕ) (k : ℕ) → class_at s k ≡ Ok block.Mark → class_at_under limit s k ≡ Ok block.Mark
  mark_at s k e = class_within record_limit s k e (λ h. clash cc) (λ c. mark_under (block_at s k) c)

  pub gap_at : (s : List ℕ) (k : ℕ) → class_at s k ≡ Ok block.Gap → class_at_under limit s k ≡ Ok block.Gap
  gap_at s k e = class_within record_limit s k e (λ h. clash cc) (λ c. gap_under (block_at s k) c)

  -- what a pass of this unit met, another takes too: no fault, and no record longer than its limit
  abbrev pub Fits : Result Met Damage → Type 0
  Fits (Ok (met.Record n q)) = n ≤ limit
  Fits (Ok (met.Mark q)) = Always
  Fits (Ok (met.Gap q)) = Always
  Fits (Ok met.Nothing) = Always
  Fits (Err d) = ⊥

  -- an object that is allowed fits
  pub allowed_fits : (o : Object) (q : ℕ) → AllowedUnder limit o → Fits (met_as o q)
  unfolding met_as
  allowed_fits (record_of d) q a = a.1
  allowed_fits mark q a = tt
  allowed_fits gap q a = tt

  module _ (s : List ℕ) (reverse : Bool) (q e : ℕ) where
    by_outcome : (m : Result Met Damage) → Outcome s reverse q e m → Fits m → passed_under limit s reverse q e ≡ m
    unfolding passed_under met_by_under
    by_outcome m (at_end z y) f = rw (eq-eqb (ahead reverse q e) 0 z, y)
    by_outcome m (over_record n one most fits all y) f =
        let l : n ≤ limit = rw y at f in
        met_record limit s reverse q e n one fits (λ j k. piece_at s (lowest reverse q (pieces_of n) + j) (all j k) l) ∙ sym y
    by_outcome m (over_mark h c y) f = passed_by limit s reverse q e (Ok block.Mark) h (rw first_alone (mark_at s (lowest reverse q 1) c)) ∙ sym y
    by_outcome m (over_gap h c y) f = passed_by limit s reverse q e (Ok block.Gap) h (rw first_alone (gap_at s (lowest reverse q 1) c)) ∙ sym y
    by_outcome m (at_fault k y) f = absurd (rw y at f)

    pub passed_under_lem : Fits (passed s reverse q e) → passed_under limit s reverse q e ≡ passed s reverse q e
    passed_under_lem f = by_outcome (passed s reverse q e) (outcome s reverse q e) f

  -- on a reel whose records are no longer than the limit, every block below the end is read as this unit reads it
  module _ {s : List ℕ} {e : ℕ} where
    object_under : (before : List Object) (o : Object) (after : List Object) → Holds s e (before ++ o ∷ after) → AllowedUnder limit o → (j : ℕ) → j < blocks_in o
        → class_at_under limit s (blocks_of before + j) ≡ class_at s (blocks_of before + j)
    unfolding blocks_in
    object_under before (record_of d) after h a j l =
        let c = class_stands s (blocks_of before) d (stands_in before (record_of d) after h) (allowed_at before (record_of d) after h.allowed) j l in
        piece_at s (blocks_of before + j) c a.1 ∙ sym c
    object_under before mark after h a j l =
        let first : blocks_of before + j ≡ blocks_of before = omega arith in
        let c = class_mark s (blocks_of before) (stands_in before mark after h) in
        rw first (mark_at s (blocks_of before) c ∙ sym c)
    object_under before gap after h a j l =
        let first : blocks_of before + j ≡ blocks_of before = omega arith in
        let c = class_gap s (blocks_of before) (stands_in before gap after h) in
        rw first (gap_at s (blocks_of before) c ∙ sym c)

    -- the object that holds block k, among those from `before` on
    among : (before after : List Object) → Holds s e (before ++ after) → AllAllowedUnder limit after → (k : ℕ) → blocks_of before ≤ k → k < e → class_at_under limit s k ≡ class_at s k
    unfolding blocks_of
    among before [] h all k from below =
        let end : blocks_of before ≡ e = rw append-nil at h.ends in
        absurd (omega arith)
    among before (o ∷ after) h (also a all) k from below =
        let past : blocks_of (before ++ o ∷ []) ≡ blocks_of before + blocks_in o = omega (arith, blocks_append before (o ∷ [])) in
        by_test (ltb k (blocks_of before + blocks_in o))
        (λ t.
        let place : blocks_of before + (k - blocks_of before) ≡ k = omega arith in
        rw place at (object_under before o after h a (k - blocks_of before) (omega (arith, ltb-true k (blocks_of before + blocks_in o) t))))
        (λ t. among (before ++ o ∷ []) after (rw append_assoc h) all k (omega (arith, past, ltb-false k (blocks_of before + blocks_in o) t)) below)

    pub class_under : {os : List Object} → Holds s e os → AllAllowedUnder limit os → (k : ℕ) → k < e → class_at_under limit s k ≡ class_at s k
    unfolding blocks_of
    class_under {os} h all k below = among [] os h all k (omega arith) below

    -- and so is every pass, from whatever position
    pub passes_same : {os : List Object} → Holds s e os → AllAllowedUnder limit os → (reverse : Bool) (p : ℕ) → p ≤ e → passed_under limit s reverse p e ≡ passed s reverse p e
    passes_same h all reverse p l = pass_agree limit record_limit s s reverse e (class_under h all) p l
