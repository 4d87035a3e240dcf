-- What a block says that is read as a piece, a mark or a gap: its three words, and that all of it is right.
use mathlib.Core.Path.{◌≡◌, refl}
use mathlib.Core.Bool.{Bool, true, false, and-eq-true_iff}
use mathlib.Core.List.{List}
use Prim.Native.Nat.{ℕ}
use native.Mathlib.Omega.{arith}
use borrow.Author.Tests.{eqb-true, eqb-false, leb-true}
use lib.Dec.{eqb, leb}
use Rattle.lists.specs.Pick.{pick}
use Rattle.lists.specs.Words.{word_at}
use Rattle.lists.proofs.Cases.{past}
use Rattle.tape.specs.Layout.{gap_kind, mark_kind, piece_kind}
use Rattle.tape.specs.Reading.{check_right, class_by_under, class_of_under, index_right, kind_of, kind_right, length_right_under, padding_right, used_of}
use Rattle.tape.specs.declared.Block.{Block}
use Rattle.tape.specs.declared.Block.TheVariants as block
use Rattle.std.specs.Prelude.{Ok}

-- which way a choice went, if its answer is not that of the other way
pub pick_first : {A : Type 0} (t : Bool) (a o r : A) → pick t a o ≡ r → (o ≡ r → ⊥) → (t ≡ true) × (a ≡ r)
pick_first true a o r e f = (refl, e)
pick_first false a o r e f = absurd (f e)

-- two different answers are never equal: `cc` proves 0 ≡ 1 from them
pub clash : ◌≡◌ {A = ℕ} 0 1 → ⊥
clash e = omega arith

-- the words of a block that is right under some record limit, and what is right about it
pub record Accepted (limit : ℕ) (b : List ℕ) (k n i : ℕ) : Type 0 where
  pub kind : word_at b 0 ≡ k
  pub size : word_at b 2 ≡ n
  pub index : word_at b 4 ≡ i
  pub kinded : kind_right k ≡ true
  pub sized : length_right_under limit k n ≡ true
  pub indexed : index_right k n i ≡ true
  pub padding : padding_right b (used_of k n i) ≡ true
  pub check : check_right b ≡ true

-- a block that is not damaged is what its kind says
accepted : (limit : ℕ) (b : List ℕ) (k n i : ℕ) (r : Block) → word_at b 0 ≡ k → word_at b 2 ≡ n → word_at b 4 ≡ i → class_of_under limit b ≡ Ok r → Accepted limit b k n i × (kind_of k n i ≡ r)
unfolding class_of_under class_by_under
accepted limit b k n i r ek en ei e =
    let e' : class_by_under limit b k n i ≡ Ok r = rw (ek, en, ei) at e in
    let p = pick_first (kind_right k) _ _ (Ok r) e' (λ h. clash cc) in
    let q = pick_first (length_right_under limit k n) _ _ (Ok r) p.1 (λ h. clash cc) in
    let s = pick_first (index_right k n i) _ _ (Ok r) q.1 (λ h. clash cc) in
    let t = pick_first (padding_right b (used_of k n i)) _ _ (Ok r) s.1 (λ h. clash cc) in
    let v = pick_first (check_right b) _ _ (Ok r) t.1 (λ h. clash cc) in
    (record { kind = ek; size = en; index = ei; kinded = p.0; sized = q.0; indexed = s.0; padding = t.0; check = v.0 }, cc v.1)

no_piece : (t : Bool) (n i : ℕ) → pick t block.Mark block.Gap ≡ block.Piece n i → ⊥
no_piece true n i e = clash cc
no_piece false n i e = clash cc

pub accepted_piece : (limit : ℕ) (b : List ℕ) (n i : ℕ) → class_of_under limit b ≡ Ok (block.Piece n i) → Accepted limit b piece_kind n i
accepted_piece limit b n i e =
    let q = (accepted limit b (word_at b 0) (word_at b 2) (word_at b 4) (block.Piece n i) refl refl refl e).1 in
    let p = pick_first (eqb (word_at b 0) piece_kind) (block.Piece (word_at b 2) (word_at b 4)) (pick (eqb (word_at b 0) mark_kind) block.Mark block.Gap) (block.Piece n i) q (no_piece (eqb (word_at b 0) mark_kind) n i) in
    (accepted limit b piece_kind n i (block.Piece n i) (eqb-true (word_at b 0) piece_kind p.0) (cc p.1) (cc p.1) e).0

-- marks and gaps have 0 in their other two words
no_data : (limit : ℕ) (k n i : ℕ) → eqb k piece_kind ≡ false → length_right_under limit k n ≡ true → index_right k n i ≡ true → (n ≡ 0) × (i ≡ 0)
no_data limit k n i e h g = (eqb-true n 0 (rw e at h), eqb-true i 0 (rw e at g))

-- a kind that is neither 1 nor 2 is 3
pub third : (k : ℕ) → eqb k piece_kind ≡ false → eqb k mark_kind ≡ false → kind_right k ≡ true → k ≡ gap_kind
third k e f h =
    let q = (and-eq-true_iff (leb piece_kind k) (leb k gap_kind)).0 h in
    omega (arith, leb-true piece_kind k q.0, leb-true k gap_kind q.1, eqb-false k piece_kind e, eqb-false k mark_kind f)

module _ (limit : ℕ) (b : List ℕ) (r : Block) (e : class_of_under limit b ≡ Ok r) (other : block.Piece (word_at b 2) (word_at b 4) ≡ r → ⊥) where
  -- a block that is taken and is no piece
  blank : (k : ℕ) → word_at b 0 ≡ k → Accepted limit b k 0 0 × (eqb k piece_kind ≡ false) × (pick (eqb k mark_kind) block.Mark block.Gap ≡ r)
  blank k ek =
      let a = accepted limit b k (word_at b 2) (word_at b 4) r ek refl refl e in
      let p = past (eqb k piece_kind) (block.Piece (word_at b 2) (word_at b 4)) (pick (eqb k mark_kind) block.Mark block.Gap) r other a.1 in
      let z = no_data limit k (word_at b 2) (word_at b 4) p.0 a.0.sized a.0.indexed in
      ((accepted limit b k 0 0 r ek z.0 z.1 e).0, p.0, p.1)

pub accepted_mark : (limit : ℕ) (b : List ℕ) → class_of_under limit b ≡ Ok block.Mark → Accepted limit b mark_kind 0 0
accepted_mark limit b e =
    let is = blank limit b block.Mark e (λ h. clash cc) in
    let p = pick_first (eqb (word_at b 0) mark_kind) block.Mark block.Gap block.Mark (is (word_at b 0) refl).2 (λ h. clash cc) in
    (is mark_kind (eqb-true (word_at b 0) mark_kind p.0)).0

pub accepted_gap : (limit : ℕ) (b : List ℕ) → class_of_under limit b ≡ Ok block.Gap → Accepted limit b gap_kind 0 0
accepted_gap limit b e =
    let is = blank limit b block.Gap e (λ h. clash cc) in
    let a = is (word_at b 0) refl in
    let p = past (eqb (word_at b 0) mark_kind) block.Mark block.Gap block.Gap (λ h. clash cc) a.2 in
    (is gap_kind (third (word_at b 0) a.1 p.0 a.0.kinded)).0
