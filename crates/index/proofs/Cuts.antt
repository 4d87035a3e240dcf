-- Where a write at a bound cuts a worked-out table, and that the table of what it leaves is the table worked out afresh.
use mathlib.Core.Path.{◌≡◌, refl, sym, ap, ◌∙◌}
use mathlib.Core.List.{List, ◌++◌}
use mathlib.Core.Logic.{◌⊎◌, inl, inr}
use Prim.Native.Nat.{ℕ, zero, suc, ◌+◌, ◌-◌, ◌*◌, ◌≤◌, ◌<◌}
use native.Mathlib.Nat.{add-zero}
use native.Mathlib.Numerals.{add-one}
use native.Mathlib.Omega.{arith}
use lib.ListN.{drop, get_or, length, length-append, take}
use lib.Seq.{length-sets, length-take-le, sets, sets-eq, take-append_seam, take_at, take-take}
use Rattle.lists.specs.Fours.{number_limit}
use Rattle.lists.proofs.Stores.{get_d_above, get_d_below, sets_at}
use Rattle.tape.specs.Afresh.{objects_in}
use Rattle.tape.specs.Numbers.{capacity_limit}
use Rattle.tape.specs.Objects.{Holds, Object, blocks_of}
use Rattle.tape.proofs.Afresh.{objects_are}
use Rattle.tape.proofs.Fronts.{blocks_low, blocks_rise, nth}
use Rattle.index.specs.Cutting.{cut_at, extended, marks_at}
use Rattle.index.specs.Halving.{halved, of_blocks}
use Rattle.index.specs.Table.{Indexed, marks_in, marks_of, place_bytes, place_length, places_row, table_from, table_of, used_places}
use Rattle.index.specs.declared.Cut.{Cut}
use Rattle.index.proofs.Halves.{halved_is, halved_low}
use Rattle.index.proofs.Stood.{kind_at_nth, kind_marks, marks_below_nth}
use Rattle.index.proofs.Tables.{Worked, first_nth, length_table, marks_more, marks_nth, table_filled, table_more, table_split}

module _ {s tb : List ℕ} {e n : ℕ} where
  -- the marks before a place are those of the objects before it: no remainder is taken, for there are at most e
  pub marks_at_is : {os : List Object} → Holds s e os → e ≤ capacity_limit → Worked tb n os → (m : ℕ) → m ≤ n → marks_at tb s m ≡ marks_of (take m os)
  unfolding marks_at marks_of
  marks_at_is {os} h l w zero k = refl
  marks_at_is {os} h l w (suc i) k =
      let m : i < length os = omega (arith, w.count) in
      let more : marks_of (take (suc i) os) ≡ marks_of (take i os) + marks_in (nth os i) = rw (add-one i) at (marks_more os i m) in
      rw (marks_nth w i k, first_nth w i k, kind_at_nth h i m, kind_marks (nth os i), more) (omega (arith, marks_below_nth h i m))

  module _ (before after : List Object) (h : Holds s e (before ++ after)) (w : Worked tb n (before ++ after)) where
    front : take (length before) (before ++ after) ≡ before
    front = take-append_seam before after

    inside : length before ≤ n
    inside = omega (arith, w.count, length-append before after)

    -- the places that stay are those of the objects before the bound: each object takes a block or more, so first blocks rise
    place_is : halved tb of_blocks (blocks_of before) n ≡ length before
    place_is =
        let os = before ++ after in
        halved_is tb of_blocks (blocks_of before) n (length before) inside
        (λ i l.
        rw (add-zero (place_length * i), first_nth w i (omega (arith, inside)))
        (omega (arith, blocks_rise os h.allowed i (length before) l (omega (arith, inside, w.count)), ap blocks_of front)))
        (λ i l k. rw (add-zero (place_length * i), first_nth w i k) (omega (arith, blocks_low os (length before) i l, ap blocks_of front)))

    pub cut_is : e ≤ capacity_limit → cut_at tb n s (blocks_of before) ≡ record { place = length before; marks = marks_of before }
    unfolding cut_at
    cut_is l = rw (place_is, marks_at_is h l w (length before) inside, front)

-- of any table and reel: no more places stay than there were, and the marks have four bytes
module _ (tb s : List ℕ) (n b : ℕ) where
  marks_small : (m : ℕ) → marks_at tb s m < number_limit
  unfolding marks_at
  marks_small zero = omega arith
  marks_small (suc i) = omega arith

  pub cut_low : (cut_at tb n s b).place ≤ n
  unfolding cut_at
  cut_low = halved_low tb of_blocks b n

  pub cut_marks : (cut_at tb n s b).marks < number_limit
  unfolding cut_at
  cut_marks = marks_small (halved tb of_blocks b n)

-- of any cut: the length stays, and so do the bytes off the places that are filled
module _ (tb : List ℕ) (c : Cut) (b : ℕ) (os : List Object) where
  pub length_extended : length (extended tb c b os) ≡ length tb
  unfolding extended
  length_extended = length-sets tb (place_length * c.place) (table_from b c.marks os)

  pub extended_other : (j : ℕ) → (j < place_length * c.place) ⊎ (place_length * (c.place + length os) ≤ j) → get_or (extended tb c b os) j 0 ≡ get_or tb j 0
  unfolding extended
  extended_other j (inl l) = get_d_below (table_from b c.marks os) tb (place_length * c.place) j l
  extended_other j (inr l) = get_d_above (table_from b c.marks os) tb (place_length * c.place) j (omega (arith, length_table b c.marks os))

-- a table of the objects before the bound, with the places of new ones behind them
pub extended_is : (tb : List ℕ) (before new : List Object) → place_length * (length before + length new) ≤ length tb → take (place_length * length before) tb ≡ table_of before
    → used_places (length before + length new) (extended tb (record { place = length before; marks = marks_of before }) (blocks_of before) new) ≡ table_of (before ++ new)
unfolding used_places extended
extended_is tb before new room used =
    let vs = table_from (blocks_of before) (marks_of before) new in
    let p = place_length * length before in
    let long : length vs ≡ place_length * length new = length_table (blocks_of before) (marks_of before) new in
    let whole : table_of before ++ vs ≡ table_of (before ++ new) = sym (table_split before new) in
    ap (take (place_length * (length before + length new))) (sets-eq vs tb p (omega arith))
    ∙ rw used
    (take_at (table_of before ++ vs) (drop (p + length vs) tb) (place_length * (length before + length new)) (omega (arith, length-append (table_of before) vs, length_table 0 0 before))
    ∙ whole)

-- a front of a worked-out table
front_used : {tb : List ℕ} {n : ℕ} (before after : List Object) → Worked tb n (before ++ after) → take (place_length * length before) tb ≡ table_of before
unfolding used_places
front_used {tb} {n} before after w =
    let p = place_length * length before in
    sym (take-take p (place_length * n) tb (omega (arith, w.count, length-append before after)))
    ∙ ap (take p) (w.used ∙ table_split before after)
    ∙ take_at (table_of before) (table_from (blocks_of before) (marks_of before) after) p (length_table 0 0 before)

-- a table worked out of a reel is worked out of the objects that it holds
module _ {s tb : List ℕ} {e n : ℕ} where
  pub worked : {os : List Object} → Indexed s e tb n → Holds s e os → Worked tb n os
  worked {os} x h = record { count = rw (objects_are h) at x.count; used = rw (objects_are h) at x.used }

  pub indexed : {os : List Object} → Holds s e os → Worked tb n os → Indexed s e tb n
  indexed {os} h w = record { count = rw (objects_are h) w.count; used = rw (objects_are h) w.used }

-- "it is always the table worked out afresh": a write at the bound behind `before` lays `new`
pub cut_extended : {s s' tb : List ℕ} {e e' n : ℕ} (before after new : List Object) → Indexed s e tb n → Holds s e (before ++ after) → Holds s' e' (before ++ new) → e ≤ capacity_limit
    → place_length * (length before + length new) ≤ length tb
    → Indexed s' e' (extended tb (cut_at tb n s (blocks_of before)) (blocks_of before) new) (length before + length new)
cut_extended {tb = tb} before after new x h h' l room =
    let w = worked x h in
    rw (cut_is before after h w l)
    (indexed h' (record { count = sym (length-append before new); used = extended_is tb before new room (front_used before after w) }))

-- a mount's table
pub filled_indexed : {s : List ℕ} {e : ℕ} (tb : List ℕ) → Holds s e (objects_in s e) → place_length * length (objects_in s e) ≤ length tb
    → Indexed s e (sets tb 0 (table_of (objects_in s e))) (length (objects_in s e))
filled_indexed {s} {e} tb h room = indexed h (table_filled tb (objects_in s e) room)

-- a turn of the loop that fills it, and of the loop that puts a row
pub fill_turn : (os : List Object) (tb₀ tb tb' : List ℕ) (n p k : ℕ) → n < length os → p ≡ blocks_of (take n os) → k ≡ marks_of (take n os) → tb ≡ sets tb₀ 0 (table_of (take n os))
    → tb' ≡ sets tb (place_length * n) (place_bytes p k) → tb' ≡ sets tb₀ 0 (table_of (take (n + 1) os))
fill_turn os tb₀ tb tb' n p k h ep ek et ev =
    let long : place_length * n ≡ 0 + length (table_of (take n os)) = omega (arith, length_table 0 0 (take n os), length-take-le n os (omega arith)) in
    ev
    ∙ rw (et, ep, ek)
    (sets_at (table_of (take n os)) (place_bytes (blocks_of (take n os)) (marks_of (take n os))) tb₀ 0 (place_length * n) long
    ∙ ap (sets tb₀ 0) (sym (table_more os n h)))

pub row_turn : (tb tb' : List ℕ) (at b k i n : ℕ) → i < n → tb' ≡ sets tb (place_length * (at + i)) (place_bytes (b + i) k)
    → sets tb' (place_length * (at + (i + 1))) (places_row (b + (i + 1)) k (n - (i + 1))) ≡ sets tb (place_length * (at + i)) (places_row (b + i) k (n - i))
unfolding places_row
row_turn tb tb' at b k i n h e =
    let left : n - i ≡ suc (n - (i + 1)) = omega arith in
    let next : b + (i + 1) ≡ b + i + 1 = omega arith in
    rw (e, left, next) (sets_at (place_bytes (b + i) k) (places_row (b + i + 1) k (n - (i + 1))) tb (place_length * (at + i)) (place_length * (at + (i + 1))) (omega arith))

pub row_none_left : (tb : List ℕ) (at b k i n : ℕ) → i ≤ n → n ≤ i → tb ≡ sets tb (place_length * (at + i)) (places_row (b + i) k (n - i))
unfolding places_row
row_none_left tb at b k i n h l =
    let left : n - i ≡ 0 = omega arith in
    rw left
