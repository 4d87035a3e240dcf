-- What a whole reel's first blocks say of its objects, by their numbers, and how far a walk over them has come.
use mathlib.Core.Path.{◌≡◌, refl, ap}
use mathlib.Core.List.{List}
use Prim.Native.Nat.{ℕ, suc, ◌+◌, ◌*◌, ◌/◌, ◌≤◌, ◌<◌}
use native.Mathlib.Omega.{arith}
use borrow.Author.Tests.{eqb-false, eqb-true, lt-ltb, ltb-false, ltb-true}
use lib.Dec.{eqb, ltb}
use lib.ListN.{drop, length, take}
use lib.Seq.{split_at, take_all, take-length}
use Rattle.lists.specs.Pick.{pick}
use Rattle.lists.specs.Words.{word_at}
use Rattle.lists.proofs.Cases.{by_test}
use Rattle.tape.specs.Layout.{mark_kind}
use Rattle.tape.specs.Numbers.{block_bytes}
use Rattle.tape.specs.Objects.{Allowed, Holds, Object, blocks_in, blocks_of, gap, mark, record_of}
use Rattle.tape.proofs.Fronts.{allowed_nth, blocks_low, blocks_more, blocks_rise, nth}
use Rattle.tape.proofs.Heads.{blocks_by_head, kind_stands, kind_in, length_stands, length_in}
use Rattle.tape.proofs.Images.{one_or_more}
use Rattle.tape.proofs.Standing.{holds_room}
use Rattle.index.specs.Cutting.{kind_at}
use Rattle.index.specs.Heads.{blocks_at, marks_on}
use Rattle.index.specs.Table.{marks_in, marks_of}
use Rattle.index.proofs.Tables.{marks_few, marks_low, marks_more}

pub kind_marks : (o : Object) → pick (eqb (kind_in o) mark_kind) 1 0 ≡ marks_in o
unfolding marks_in
kind_marks (record_of d) = refl
kind_marks mark = refl
kind_marks gap = refl

-- the blocks of the first n objects
front_all : (n : ℕ) (os : List Object) → length os ≤ n → blocks_of (take n os) ≡ blocks_of os
front_all n os h = ap blocks_of (take_all n os h)

module _ {s : List ℕ} {e : ℕ} {os : List Object} (h : Holds s e os) where
  -- short of the end there is another object, and at the end none
  pub more_below : (n : ℕ) → blocks_of (take n os) < e → n < length os
  more_below n l = by_test (ltb n (length os)) (λ t. ltb-true n (length os) t) (λ t. absurd (omega (arith, front_all n os (ltb-false n (length os) t), h.ends)))

  pub none_below : (n : ℕ) → n ≤ length os → e ≤ blocks_of (take n os) → n ≡ length os
  none_below n k l =
      by_test (eqb n (length os)) (λ t. eqb-true n (length os) t)
      (λ t.
      let m : n < length os = omega (arith, eqb-false n (length os) t) in
      absurd (omega (arith, blocks_rise os h.allowed n (length os) m m, front_all (length os) os (omega arith), h.ends)))

  module _ (i : ℕ) (l : i < length os) where
    allowed : Allowed (nth os i)
    allowed = allowed_nth os h.allowed i l

    kind_nth : word_at s (block_bytes * blocks_of (take i os)) ≡ kind_in (nth os i)
    kind_nth = kind_stands (take i os) (nth os i) (drop (suc i) os) (rw (split_at os i gap l) at h) allowed

    length_nth : word_at s (block_bytes * blocks_of (take i os) + 2) ≡ length_in (nth os i)
    length_nth = length_stands (take i os) (nth os i) (drop (suc i) os) (rw (split_at os i gap l) at h) allowed

    pub blocks_at_nth : blocks_at s (blocks_of (take i os)) ≡ blocks_in (nth os i)
    unfolding blocks_at
    blocks_at_nth = rw (kind_nth, length_nth, ← blocks_by_head)

    pub marks_on_nth : marks_on s (blocks_of (take i os)) ≡ marks_in (nth os i)
    unfolding marks_on
    marks_on_nth = rw (kind_nth, kind_marks)

    -- it ends below the end, and has a block
    pub below_nth : blocks_of (take i os) + blocks_in (nth os i) ≤ e
    below_nth = omega (arith, blocks_more os i l, blocks_low os (i + 1) (length os) (omega arith), front_all (length os) os (omega arith), h.ends)

    pub some_nth : 1 ≤ blocks_in (nth os i)
    some_nth = one_or_more (nth os i) allowed

    pub kind_at_nth : kind_at s (blocks_of (take i os)) ≡ kind_in (nth os i)
    kind_at_nth = rw (lt-ltb (blocks_of (take i os)) (length s / block_bytes) (omega (arith, holds_room h, below_nth, some_nth))) kind_nth

    -- and there are no more marks than blocks
    pub marks_below_nth : marks_of (take i os) + marks_in (nth os i) ≤ e
    marks_below_nth = omega (arith, marks_more os i l, marks_low os (i + 1) (length os) (omega arith), ap marks_of (take-length os), marks_few h.allowed, h.ends)
