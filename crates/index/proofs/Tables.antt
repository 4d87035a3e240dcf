-- The table of objects: how long it is, how two join, and which numbers stand in the place of each object.
use mathlib.Core.Path.{◌≡◌, refl, sym, ap, ◌∙◌}
use mathlib.Core.List.{List, [], ◌∷◌, ◌++◌}
use Prim.Native.Nat.{ℕ, zero, suc, ◌+◌, ◌-◌, ◌*◌, ◌≤◌, ◌<◌}
use native.Mathlib.Nat.{add_assoc, add-zero, zero-add}
use native.Mathlib.Omega.{arith}
use lib.ListN.{drop, length, length-append, take}
use lib.Seq.{drop_at, drop-drop, get_or-take, length-take-le, sets, split_at}
use Rattle.lists.specs.Fours.{number_at, number_bytes}
use Rattle.lists.proofs.Fours.{number_back, number_first}
use Rattle.lists.proofs.Stores.{sets_part}
use Rattle.tape.specs.Objects.{AllAllowed, Object, also, blocks_in, blocks_of, gap, mark, none, record_of}
use Rattle.tape.proofs.Fronts.{front_more, front_split, nth}
use Rattle.tape.proofs.Images.{one_or_more}
use Rattle.index.specs.Table.{first_block, marks_before, marks_in, marks_of, place_bytes, place_length, places_row, table_from, table_of, used_places}

pub marks_append : (xs ys : List Object) → marks_of (xs ++ ys) ≡ marks_of xs + marks_of ys
unfolding marks_of
marks_append [] ys = rw zero-add
marks_append (o ∷ xs) ys = omega (arith, marks_append xs ys)

pub length_table : (b k : ℕ) (os : List Object) → length (table_from b k os) ≡ place_length * length os
unfolding table_from
length_table b k [] = refl
length_table b k (o ∷ os) = omega (arith, length_table (b + blocks_in o) (k + marks_in o) os)

pub table_append : (b k : ℕ) (xs ys : List Object) → table_from b k (xs ++ ys) ≡ table_from b k xs ++ table_from (b + blocks_of xs) (k + marks_of xs) ys
unfolding table_from blocks_of marks_of
table_append b k [] ys = rw (add-zero b, add-zero k)
table_append b k (o ∷ xs) ys =
    rw (← add_assoc b (blocks_in o) (blocks_of xs), ← add_assoc k (marks_in o) (marks_of xs)) (ap (λ (l : List ℕ). place_bytes b k ++ l) (table_append (b + blocks_in o) (k + marks_in o) xs ys))

-- a reel's table from some object on
pub table_split : (xs ys : List Object) → table_of (xs ++ ys) ≡ table_of xs ++ table_from (blocks_of xs) (marks_of xs) ys
table_split xs ys = table_append 0 0 xs ys ∙ rw (zero-add (blocks_of xs), zero-add (marks_of xs))

-- what a write lays: nothing, one object, or a gap and the object behind it
pub length_row : (b k n : ℕ) → length (places_row b k n) ≡ place_length * n
unfolding places_row
length_row b k zero = refl
length_row b k (suc n) = omega (arith, length_row (b + 1) k n)

module _ (b k : ℕ) where
  pub row_none : table_from b k [] ≡ places_row b k 0
  unfolding table_from places_row
  row_none = refl

  pub row_one : (o : Object) → table_from b k (o ∷ []) ≡ places_row b k 1
  unfolding table_from places_row
  row_one o = refl

  pub row_gap : (o : Object) → table_from b k (gap ∷ o ∷ []) ≡ places_row b k 2
  unfolding table_from places_row blocks_in marks_in
  row_gap o = rw (add-zero k)

-- a mark has a block, so there are no more marks than blocks
pub mark_one : (o : Object) → marks_in o ≤ 1
unfolding marks_in
mark_one (record_of d) = omega arith
mark_one mark = omega arith
mark_one gap = omega arith

pub marks_few : {os : List Object} → AllAllowed os → marks_of os ≤ blocks_of os
unfolding marks_of blocks_of
marks_few none = omega arith
marks_few (also {o = o} a all) = omega (arith, mark_one o, one_or_more o a, marks_few all)

-- the marks of the first n objects, and their table
module _ (os : List Object) where
  pub marks_more : (n : ℕ) → n < length os → marks_of (take (n + 1) os) ≡ marks_of (take n os) + marks_in (nth os n)
  unfolding marks_of
  marks_more n h = omega (arith, ap marks_of (front_more os n h), marks_append (take n os) (nth os n ∷ []))

  pub marks_low : (i j : ℕ) → i ≤ j → marks_of (take i os) ≤ marks_of (take j os)
  marks_low i j h = omega (arith, ap marks_of (front_split os i j h), marks_append (take i os) (take (j - i) (drop i os)))

  pub table_more : (n : ℕ) → n < length os → table_of (take (n + 1) os) ≡ table_of (take n os) ++ place_bytes (blocks_of (take n os)) (marks_of (take n os))
  unfolding table_from
  table_more n h = ap (λ (l : List Object). table_of l) (front_more os n h) ∙ table_split (take n os) (nth os n ∷ [])

-- n places of tb are used, and they are the table of the objects os
pub record Worked (tb : List ℕ) (n : ℕ) (os : List Object) : Type 0 where
  pub count : n ≡ length os
  pub used : used_places n tb ≡ table_of os

-- an object's place, and the table from there on
place_of : (before : List Object) (o : Object) (after : List Object)
    → drop (place_length * length before) (table_of (before ++ o ∷ after)) ≡ place_bytes (blocks_of before) (marks_of before) ++ table_from (blocks_of before + blocks_in o) (marks_of before + marks_in o) after
unfolding table_from
place_of before o after =
    ap (drop (place_length * length before)) (table_split before (o ∷ after)) ∙ drop_at (table_of before) (table_from (blocks_of before) (marks_of before) (o ∷ after)) (place_length * length before) (length_table 0 0 before)

-- a number of the used part
number_in : (tb : List ℕ) (m p : ℕ) → p + 4 ≤ m → number_at (take m tb) p ≡ number_at tb p
number_in tb m p h = rw (get_or-take m tb p 0 (omega arith), get_or-take m tb (p + 1) 0 (omega arith), get_or-take m tb (p + 2) 0 (omega arith), get_or-take m tb (p + 2 + 1) 0 (omega arith))

module _ {tb : List ℕ} {n : ℕ} where
  number_used : {os : List Object} → Worked tb n os → (p : ℕ) → p + 4 ≤ place_length * n → number_at tb p ≡ number_at (table_of os) p
  unfolding used_places
  number_used {os} w p h = sym (number_in tb (place_length * n) p h) ∙ ap (λ (l : List ℕ). number_at l p) w.used

  module _ (before : List Object) (o : Object) (after : List Object) (w : Worked tb n (before ++ o ∷ after)) where
    -- the table behind it
    abbrev rest : List ℕ
    rest = table_from (blocks_of before + blocks_in o) (marks_of before + marks_in o) after

    inside : place_length * length before + place_length ≤ place_length * n
    inside = omega (arith, w.count, length-append before (o ∷ after))

    pub first_place : first_block tb (length before) ≡ blocks_of before
    first_place =
        let p = place_length * length before in
        let os = before ++ o ∷ after in
        number_used w p (omega (arith, inside)) ∙ sym (number_first (table_of os) p) ∙ ap (λ (l : List ℕ). number_at l 0) (place_of before o after) ∙ number_back (blocks_of before) (number_bytes (marks_of before) ++ rest)

    pub marks_place : marks_before tb (length before) ≡ marks_of before
    marks_place =
        let p = place_length * length before in
        let os = before ++ o ∷ after in
        number_used w (p + 4) (omega (arith, inside))
        ∙ sym (number_first (table_of os) (p + 4))
        ∙ ap (λ (l : List ℕ). number_at l 0) (sym (drop-drop 4 p (table_of os)) ∙ ap (drop 4) (place_of before o after))
        ∙ number_back (marks_of before) rest

  -- by its number
  module _ {os : List Object} (w : Worked tb n os) (i : ℕ) (h : i < n) where
    below : i < length os
    below = omega (arith, w.count)

    long : length (take i os) ≡ i
    long = length-take-le i os (omega (arith, below))

    pub first_nth : first_block tb i ≡ blocks_of (take i os)
    first_nth = ap (first_block tb) (sym long) ∙ first_place (take i os) (nth os i) (drop (suc i) os) (rw (split_at os i gap below) at w)

    pub marks_nth : marks_before tb i ≡ marks_of (take i os)
    marks_nth = ap (marks_before tb) (sym long) ∙ marks_place (take i os) (nth os i) (drop (suc i) os) (rw (split_at os i gap below) at w)

-- a table filled from the front, for a mount
pub table_filled : (tb : List ℕ) (os : List Object) → place_length * length os ≤ length tb → Worked (sets tb 0 (table_of os)) (length os) os
unfolding used_places
table_filled tb os h =
    record {
      count = refl;
      used = rw (length_table 0 0 os) at (sets_part (table_of os) tb 0 (omega (arith, length_table 0 0 os)));
    }
