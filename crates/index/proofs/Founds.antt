-- What look-ups find: on a worked-out table exactly the object asked for, and on any bytes a place inside.
use mathlib.Core.Path.{◌≡◌, refl, sym, ap, ◌∙◌}
use mathlib.Core.Bool.{Bool, true, false}
use mathlib.Core.List.{List, [], ◌∷◌, ◌++◌}
use Prim.Native.Nat.{ℕ, zero, suc, ◌+◌, ◌-◌, ◌*◌, ◌≤◌, ◌<◌}
use native.Mathlib.Nat.{add-zero}
use native.Mathlib.Numerals.{add-one}
use native.Mathlib.Omega.{arith}
use borrow.Author.Tests.{eq-eqb, eqb-false, le-ltb, leb-false, lt-leb, lt-ltb, ltb-false, ltb-true, ne_eqb}
use lib.Dec.{eqb, leb, ltb}
use lib.ListN.{drop, length, length-append, take}
use lib.Seq.{get_or-append_seam, length-take-le, split_at, take_all, take-append-le, take-append_seam, take-length, take-suc, take-take}
use Rattle.std.specs.Prelude.{Option, Some, None, SomeIff}
use Rattle.std.proofs.lemmas.Option.{none-some, same_Some}
use Rattle.lists.specs.Pick.{pick}
use Rattle.lists.proofs.Cases.{by_test, past}
use Rattle.tape.specs.Objects.{Object, blocks_in, blocks_of, gap, mark, record_of}
use Rattle.tape.proofs.Fronts.{blocks_low, blocks_more, nth}
use Rattle.index.specs.Finding.{FileBegins, Filed, HoldsBlock, block_found, file_found, files, no_file}
use Rattle.index.specs.Halving.{halved, number_in, of_blocks, of_marks}
use Rattle.index.specs.Table.{marks_in, marks_of, place_length, places_in, places_limit}
use Rattle.index.proofs.Halves.{halved_before, halved_behind, halved_is, halved_low}
use Rattle.index.proofs.Tables.{Worked, first_nth, mark_one, marks_append, marks_low, marks_more, marks_nth}

-- what is found where the tests let it be
module _ (tb : List ℕ) (n f w : ℕ) (p : w ≡ places_in (length tb)) where
  module _ (room : n ≤ w) (i : ℕ) (e : i ≡ halved tb of_marks f n) where
    file_at : i < n → Some i ≡ file_found tb n f
    unfolding file_found
    file_at l = rw (← p, le-ltb w n room, ← e, lt-ltb i n l)

module _ (tb : List ℕ) (n e b w : ℕ) (p : w ≡ places_in (length tb)) where
  module _ (room : n ≤ w) (below : b < e) (i : ℕ) (h : i ≡ halved tb of_blocks (b + 1) n) where
    block_at : (r : Option ℕ) → SomeIff r (1 ≤ i) (i - 1) → r ≡ block_found tb n e b
    unfolding block_found
    block_at None x = rw (← p, le-ltb w n room, lt-leb e b below, ← h, eq-eqb i 0 (omega arith))
    block_at (Some k) x = rw (← p, le-ltb w n room, lt-leb e b below, ← h, ne_eqb i 0 (λ z. omega arith), x.1)

-- and what an answer says of the tests
at_first : (t : Bool) (i j : ℕ) → pick t (Some i) None ≡ Some j → (t ≡ true) × (i ≡ j)
at_first true i j e = (refl, same_Some i j e)
at_first false i j e = absurd (none-some j e)

module _ (tb : List ℕ) (n i : ℕ) where
  -- the place is where the halving ends
  pub file_told : (f : ℕ) → file_found tb n f ≡ Some i → (i ≡ halved tb of_marks f n) × (i < n)
  unfolding file_found
  file_told f e =
      let at = halved tb of_marks f n in
      let q = past (ltb (places_in (length tb)) n) None (pick (ltb at n) (Some at) None) (Some i) (none-some i) e in
      let r = at_first (ltb at n) at i q.1 in
      let l : at < n = ltb-true at n r.0 in
      (sym r.1, omega (arith, r.1))

  pub block_told : (e b : ℕ) → block_found tb n e b ≡ Some i → (b < e) × (suc i ≡ halved tb of_blocks (b + 1) n) × (i < n)
  unfolding block_found
  block_told e b h =
      let at = halved tb of_blocks (b + 1) n in
      let rest = pick (eqb at 0) None (Some (at - 1)) in
      let q = past (ltb (places_in (length tb)) n) None (pick (leb e b) None rest) (Some i) (none-some i) h in
      let r = past (leb e b) None rest (Some i) (none-some i) q.1 in
      let t = past (eqb at 0) None (Some (at - 1)) (Some i) (none-some i) r.1 in
      let u = same_Some (at - 1) i t.1 in
      let z = eqb-false at 0 t.0 in
      let s : suc i ≡ at = omega arith in
      (leb-false e b r.0, s, omega (arith, halved_low tb of_blocks (b + 1) n))

-- whole files have more marks than any of their fronts
fewer : {before : List Object} → Filed before → (j : ℕ) → j < length before → marks_of (take j before) < marks_of before
unfolding marks_of marks_in
fewer no_file j l = absurd (omega arith)
fewer (files xs) j l =
    let m : j ≤ length xs = omega (arith, length-append xs (mark ∷ [])) in
    omega (arith, ap marks_of (take-append-le j xs (mark ∷ []) m), marks_low xs j (length xs) m, ap marks_of (take-length xs), marks_append xs (mark ∷ []))

is_mark_lem : (o : Object) → 1 ≤ marks_in o → o ≡ mark
unfolding marks_in
is_mark_lem (record_of d) h = absurd (omega arith)
is_mark_lem mark h = refl
is_mark_lem gap h = absurd (omega arith)

-- the first front with f marks or more has f, and is whole files
first_front : (os : List Object) (f i : ℕ) → i ≤ length os → f ≤ marks_of (take i os) → ((j : ℕ) → suc j ≡ i → marks_of (take j os) < f) → Filed (take i os) × (marks_of (take i os) ≡ f)
unfolding marks_of
first_front os f zero k h g = (no_file, omega arith)
first_front os f (suc j) k h g =
    let m = rw (add-one j) at (marks_more os j k) in
    let one : 1 ≤ marks_in (nth os j) = omega (arith, g j refl) in
    let whole : take (suc j) os ≡ take j os ++ mark ∷ [] = take-suc os j gap k ∙ ap (λ (o : Object). take j os ++ o ∷ []) (is_mark_lem (nth os j) one) in
    (rw whole (files (take j os)), omega (arith, g j refl, mark_one (nth os j)))

-- a worked-out table is large enough for its count
module _ {tb : List ℕ} {n : ℕ} {os : List Object} (w : Worked tb n os) (room : place_length * n ≤ length tb) (few : n ≤ places_limit) where
  large : n ≤ places_in (length tb)
  large = omega arith

  -- every place before the file's first has fewer marks, and none from there on
  pub file_found_lem : {f i : ℕ} → FileBegins os f i → file_found tb n f ≡ Some i
  file_found_lem {f} {i} x =
      let long : length os ≡ length x.before + suc (length x.after) = ap length x.whole ∙ length-append x.before (x.object ∷ x.after) in
      let below : i < n = omega (arith, w.count, x.place) in
      let front : take i os ≡ x.before = rw (x.whole, x.place) (take-append_seam x.before (x.object ∷ x.after)) in
      let at : halved tb of_marks f n ≡ i =
      halved_is tb of_marks f n i (omega arith)
      (λ j l. omega (arith, marks_nth w j (omega arith), ap marks_of (sym (take-take j i os (omega arith)) ∙ ap (take j) front), fewer x.filed j (omega (arith, x.place)), x.marks))
      (λ j l k. omega (arith, marks_nth w j k, marks_low os i j l, ap marks_of front, x.marks)) in
      sym (file_at tb n f (places_in (length tb)) refl large i (sym at) below)

  pub file_begins : {f i : ℕ} → file_found tb n f ≡ Some i → FileBegins os f i
  file_begins {f} {i} e =
      let t = file_told tb n i f e in
      let l : i < length os = omega (arith, t.1, w.count) in
      let above : f ≤ marks_of (take i os) = omega (arith, t.0, marks_nth w i t.1, ap (number_in tb of_marks) t.0, halved_before tb of_marks f n (omega (arith, t.0, t.1))) in
      let q = first_front os f i (omega arith) above (λ j p. omega (arith, marks_nth w j (omega (arith, t.1)), halved_behind tb of_marks f n j (p ∙ t.0))) in
      record {
        before = take i os;
        object = nth os i;
        after = drop (suc i) os;
        whole = split_at os i gap l;
        place = sym (length-take-le i os (omega arith));
        filed = q.0;
        marks = q.1;
      }

  -- the blocks of the objects up to the one of number i
  upto : (i : ℕ) → i < length os → blocks_of (take i os) + blocks_in (nth os i) ≤ blocks_of os
  upto i l = omega (arith, blocks_more os i l, blocks_low os (i + 1) (length os) (omega arith), ap blocks_of (take-length os))

  pub block_found_lem : {b i : ℕ} → HoldsBlock os b i → block_found tb n (blocks_of os) b ≡ Some i
  block_found_lem {b} {i} x =
      let long : length os ≡ length x.before + suc (length x.after) = ap length x.whole ∙ length-append x.before (x.object ∷ x.after) in
      let l : i < length os = omega (arith, x.place) in
      let front : take i os ≡ x.before = rw (x.whole, x.place) (take-append_seam x.before (x.object ∷ x.after)) in
      let own : nth os i ≡ x.object = rw (x.whole, x.place) (get_or-append_seam x.before x.object x.after gap) in
      let from : blocks_of (take i os) ≤ b = omega (arith, ap blocks_of front, x.from) in
      let below : b < blocks_of (take i os) + blocks_in (nth os i) = omega (arith, ap blocks_of front, ap blocks_in own, x.below) in
      let at : halved tb of_blocks (b + 1) n ≡ suc i =
      halved_is tb of_blocks (b + 1) n (suc i) (omega (arith, w.count))
      (λ j k. rw (add-zero (place_length * j), first_nth w j (omega (arith, w.count))) (omega (arith, blocks_low os j i (omega arith))))
      (λ j k m. rw (add-zero (place_length * j), first_nth w j m) (omega (arith, blocks_more os i l, blocks_low os (i + 1) j (omega arith)))) in
      let back : suc i - 1 ≡ i = omega arith in
      sym (block_at tb n (blocks_of os) b (places_in (length tb)) refl large (omega (arith, upto i l)) (suc i) (sym at) (Some i) (omega arith, sym back))

  pub block_holds : {b i : ℕ} → block_found tb n (blocks_of os) b ≡ Some i → HoldsBlock os b i
  block_holds {b} {i} e =
      let t = block_told tb n i (blocks_of os) b e in
      let l : i < length os = omega (arith, t.2, w.count) in
      let next : blocks_of (take (i + 1) os) ≡ blocks_of (take i os) + blocks_in (nth os i) = blocks_more os i l in
      let first : number_in tb of_blocks i ≡ blocks_of (take i os) = rw (add-zero (place_length * i)) (first_nth w i t.2) in
      record {
        before = take i os;
        object = nth os i;
        after = drop (suc i) os;
        whole = split_at os i gap l;
        place = sym (length-take-le i os (omega arith));
        from = omega (arith, halved_behind tb of_blocks (b + 1) n i t.1);
        below =
            by_test (ltb (suc i) n)
            (λ y.
            let m : suc i < n = ltb-true (suc i) n y in
            let second : number_in tb of_blocks (suc i) ≡ blocks_of (take (i + 1) os) = rw (add-zero (place_length * suc i), add-one i) (first_nth w (suc i) m) in
            omega (arith, ap (number_in tb of_blocks) t.1, halved_before tb of_blocks (b + 1) n (omega (arith, t.1))))
            (λ y. omega (arith, t.0, ltb-false (suc i) n y, ap blocks_of (take_all (i + 1) os (omega (arith, w.count, ltb-false (suc i) n y)))));
      }
