-- What a pass says of the blocks that it read, whatever the bytes: the inversion of `passed`.
use mathlib.Core.Path.{◌≡◌, refl}
use mathlib.Core.Bool.{Bool, true, false, ◌&&◌, and-eq-true_iff}
use mathlib.Core.List.{List}
use mathlib.Core.Logic.{⊎_elim}
use Prim.Native.Nat.{ℕ, zero, suc, ◌+◌, ◌-◌, ◌≤◌, ◌<◌}
use native.Mathlib.Nat.{eq-or-lt_of_le}
use native.Mathlib.Omega.{arith}
use borrow.Author.Tests.{eqb-true, eqb-false, leb-true}
use lib.Dec.{eqb, leb}
use Rattle.lists.specs.Pick.{pick}
use Rattle.tape.specs.Numbers.{pieces_of, record_limit}
use Rattle.tape.specs.Pass.{ahead, bad_at, beyond, fault_of, first_met, is_piece, lowest, met_by, met_by_under, order_met, passed, passed_under, pieces_met, pieces_met_under, record_met_under}
use Rattle.tape.specs.Reading.{class_at}
use Rattle.tape.specs.declared.BlockFault.TheVariants as fault
use Rattle.tape.specs.declared.Block.{Block}
use Rattle.tape.specs.declared.Block.TheVariants as block
use Rattle.tape.specs.declared.Met.{Met}
use Rattle.tape.specs.declared.Met.TheVariants as met
use Rattle.tape.proofs.Passes.{PiecesAt, first_alone, first_order, order_below}
use Rattle.tape.proofs.ReadBlocks.{piece_read}
use Rattle.std.specs.Prelude.{Result, Ok, Err}
use Rattle.tape.specs.declared.Damage.{Damage}
use Rattle.tape.specs.Damage.{damage}
use Rattle.tape.specs.declared.BlockFault.{BlockFault}

pub data Outcome (s : List ℕ) (reverse : Bool) (q e : ℕ) (m : Result Met Damage) : Type 0 where
  at_end : ahead reverse q e ≡ 0 → m ≡ Ok met.Nothing → Outcome s reverse q e m
  over_record : (n : ℕ) → 1 ≤ n → n ≤ record_limit → pieces_of n ≤ ahead reverse q e → PiecesAt s (lowest reverse q (pieces_of n)) n → m ≡ Ok (met.Record n (beyond reverse q (pieces_of n))) → Outcome s reverse q e m
  over_mark : 1 ≤ ahead reverse q e → class_at s (lowest reverse q 1) ≡ Ok block.Mark → m ≡ Ok (met.Mark (beyond reverse q 1)) → Outcome s reverse q e m
  over_gap : 1 ≤ ahead reverse q e → class_at s (lowest reverse q 1) ≡ Ok block.Gap → m ≡ Ok (met.Gap (beyond reverse q 1)) → Outcome s reverse q e m
  at_fault : (k : ℕ) → m ≡ bad_at s k → Outcome s reverse q e m

is_piece_lem : (b : Result Block BlockFault) (n i : ℕ) → is_piece b n i ≡ true → b ≡ Ok (block.Piece n i)
unfolding is_piece
is_piece_lem (Ok (block.Piece n' i')) n i h =
    let t = (and-eq-true_iff (eqb n' n) (eqb i' i)).0 h in
    cc (eqb-true n' n t.0, eqb-true i' i t.1)
is_piece_lem (Ok block.Mark) n i h = cc
is_piece_lem (Ok block.Gap) n i h = cc
is_piece_lem (Err f) n i h = cc

order_twice : (reverse : Bool) (m j : ℕ) → j < m → order_met reverse m (order_met reverse m j) ≡ j
order_twice true m j h = omega arith
order_twice false m j h = refl

pub one_at_least : (n : ℕ) → (n ≡ 0 → ⊥) → 1 ≤ n
one_at_least n f = omega arith

-- the pieces from j on were the ones due, or a block was at fault
module _ (s : List ℕ) (reverse : Bool) (n p m : ℕ) where
  abbrev Due : ℕ → Type 0
  Due i = class_at s (p + order_met reverse m i) ≡ Ok (block.Piece n (order_met reverse m i))

  data PiecesSeen (j c : ℕ) (whole : Met) (x : Result Met Damage) : Type 0 where
    due : ((i : ℕ) → j ≤ i → i < j + c → Due i) → x ≡ Ok whole → PiecesSeen j c whole x
    not_due : (k : ℕ) → x ≡ bad_at s k → PiecesSeen j c whole x

  next_seen : (j c : ℕ) (whole : Met) (rest : Result Met Damage) (t : Bool) → is_piece (class_at s (p + order_met reverse m j)) n (order_met reverse m j) ≡ t → PiecesSeen (suc j) c whole rest
      → PiecesSeen j (suc c) whole (pick t rest (bad_at s (p + order_met reverse m j)))
  next_seen j c whole rest true h (due f e) =
      due (λ i a b. ⊎_elim (λ z. rw (← z) (is_piece_lem _ n (order_met reverse m j) h)) (λ l. f i l (omega arith)) (eq-or-lt_of_le a)) e
  next_seen j c whole rest true h (not_due k e) = not_due k e
  next_seen j c whole rest false h r = not_due (p + order_met reverse m j) refl

  pieces_seen : (j c : ℕ) (whole : Met) → PiecesSeen j c whole (pieces_met s reverse n p m j c whole)
  unfolding pieces_met_under
  pieces_seen j zero whole = due (λ i a b. absurd (omega arith)) refl
  pieces_seen j (suc c) whole = next_seen j c whole (pieces_met s reverse n p m (suc j) c whole) (is_piece (class_at s (p + order_met reverse m j)) n (order_met reverse m j)) refl (pieces_seen (suc j) c whole)

module _ (s : List ℕ) (reverse : Bool) (q e n : ℕ) (fits : pieces_of n ≤ ahead reverse q e) (first : class_at s (first_met reverse q) ≡ Ok (block.Piece n (order_met reverse (pieces_of n) 0))) where
  due_all : ((j : ℕ) → 1 ≤ j → j < 1 + (pieces_of n - 1) → Due s reverse n (lowest reverse q (pieces_of n)) (pieces_of n) j) → (j : ℕ) → j < pieces_of n → Due s reverse n (lowest reverse q (pieces_of n)) (pieces_of n) j
  due_all f zero h = rw (← (first_order reverse q e (pieces_of n) h fits)) first
  due_all f (suc j) h = f (suc j) (omega arith) (omega arith)

  record_outcome : (x : Result Met Damage) → PiecesSeen s reverse n (lowest reverse q (pieces_of n)) (pieces_of n) 1 (pieces_of n - 1) (met.Record n (beyond reverse q (pieces_of n))) x → Outcome s reverse q e x
  record_outcome x (not_due k y) = at_fault k y
  record_outcome x (due f y) =
      let m : ℕ = pieces_of n in
      let p : ℕ = lowest reverse q m in
      let all : PiecesAt s p n = λ j h. rw (order_twice reverse m j h) at (due_all f (order_met reverse m j) (order_below reverse m j h)) in
      let r = piece_read s (first_met reverse q) n (order_met reverse m 0) first in
      over_record n r.0 r.1 fits all y

module _ (s : List ℕ) (reverse : Bool) (q e : ℕ) where
  fit_outcome : (n i : ℕ) (t : Bool) → (eqb i (order_met reverse (pieces_of n) 0) && leb (pieces_of n) (ahead reverse q e)) ≡ t → class_at s (first_met reverse q) ≡ Ok (block.Piece n i)
      → Outcome s reverse q e (pick t (pieces_met s reverse n (lowest reverse q (pieces_of n)) (pieces_of n) 1 (pieces_of n - 1) (met.Record n (beyond reverse q (pieces_of n)))) (Err (damage fault.Index (first_met reverse q))))
  unfolding fault_of
  fit_outcome n i true h c =
      let m : ℕ = pieces_of n in
      let t = (and-eq-true_iff (eqb i (order_met reverse m 0)) (leb m (ahead reverse q e))).0 h in
      let k : i ≡ order_met reverse m 0 = eqb-true i (order_met reverse m 0) t.0 in
      record_outcome s reverse q e n (leb-true m (ahead reverse q e) t.1) (rw k at c) _ (pieces_seen s reverse n (lowest reverse q m) m 1 (m - 1) (met.Record n (beyond reverse q m)))
  fit_outcome n i false h c = at_fault (first_met reverse q) (rw c)

  class_outcome : (b : Result Block BlockFault) → 1 ≤ ahead reverse q e → class_at s (first_met reverse q) ≡ b → Outcome s reverse q e (met_by s reverse q e b)
  unfolding met_by_under record_met_under fault_of
  class_outcome (Ok (block.Piece n i)) h c = fit_outcome n i (eqb i (order_met reverse (pieces_of n) 0) && leb (pieces_of n) (ahead reverse q e)) refl c
  class_outcome (Ok block.Mark) h c = over_mark h (rw first_alone at c) refl
  class_outcome (Ok block.Gap) h c = over_gap h (rw first_alone at c) refl
  class_outcome (Err f) h c = at_fault (first_met reverse q) (rw c)

  end_outcome : (t : Bool) → eqb (ahead reverse q e) 0 ≡ t → Outcome s reverse q e (pick t (Ok met.Nothing) (met_by s reverse q e (class_at s (first_met reverse q))))
  end_outcome true h = at_end (eqb-true (ahead reverse q e) 0 h) refl
  end_outcome false h = class_outcome (class_at s (first_met reverse q)) (one_at_least (ahead reverse q e) (eqb-false (ahead reverse q e) 0 h)) refl

  pub outcome : Outcome s reverse q e (passed s reverse q e)
  unfolding passed_under
  outcome = end_outcome (eqb (ahead reverse q e) 0) refl
