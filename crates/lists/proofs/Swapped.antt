-- With SWB the two bytes of a word change their places: runs of whole words at even addresses.
use mathlib.Core.Path.{◌≡◌, refl, ap, sym, ◌∙◌}
use mathlib.Core.Bool.{true}
use mathlib.Core.List.{List, [], ◌∷◌, ◌++◌}
use Prim.Native.Nat.{ℕ, zero, suc, ◌+◌, ◌-◌, ◌%◌, ◌≤◌, ◌<◌}
use native.Mathlib.Nat.{add-suc, add-zero, sub-zero, zero-add}
use native.Mathlib.Numerals.{add-one}
use native.Mathlib.Omega.{arith}
use Rattle.std.specs.Prelude.{min}
use lib.ListN.{length, take, drop, get_or, set, take-append-drop}
use lib.Seq.{length-sets, sets, drop-drop, set_comm, get_or-drop, get_or-take}
use Rattle.lists.proofs.Placed.{gather_more, gathered_append, length_gathered, place_in, place_more, placed_at}
use Rattle.std.proofs.lemmas.List.Edits.{swap_is}
use Rattle.std.specs.List.{swap}
use Rattle.lists.proofs.Stores.{get_d_above, length_part, sets_at, sets_whole}
use Rattle.lists.specs.Places.{place, placed, gathered}

-- the places of a word's two bytes
low_place : (a : ℕ) → a % 2 ≡ 0 → place true a ≡ suc a
low_place a h = omega arith

high_place : (a : ℕ) → a % 2 ≡ 0 → place true (suc a) ≡ a
high_place a h = omega arith

-- its two bytes, swapped
word_stored : (r s : List ℕ) (i : ℕ) → i % 2 ≡ 0 → set (set s i (get_or r (i + 1) 0)) (i + 1) (get_or r i 0) ≡ sets s i (gathered true r i 2)
unfolding gathered
word_stored r s i e = rw (low_place i e, high_place i e, add-one i)

-- the word at i changes its bytes, where those before it have done so
pub swap_word : (r s : List ℕ) (i : ℕ) → i % 2 ≡ 0 → i + 1 < length r → s ≡ sets r 0 (gathered true r 0 i) → swap s i (i + 1) ≡ sets r 0 (gathered true r 0 (i + 2))
swap_word r s i e h p =
    let g = gathered true r 0 i in
    let n : length g ≡ i = length_gathered true r 0 i in
    let q : length s ≡ length r = rw p (length-sets r 0 g) in
    let low : get_or s i 0 ≡ get_or r i 0 = rw p (get_d_above g r 0 i (omega arith)) in
    let high : get_or s (i + 1) 0 ≡ get_or r (i + 1) 0 = rw p (get_d_above g r 0 (i + 1) (omega arith)) in
    sym (swap_is s i (i + 1) 0 (omega arith) (omega arith))
    ∙ rw (low, high, p) (word_stored r (sets r 0 g) i e ∙ sets_at g (gathered true r i 2) r 0 i (omega arith) ∙ ap (sets r 0) (rw (zero-add i) at (gathered_append true r 0 i 2)))

-- the places in what m holds from an even k on
gathered_from : (m : List ℕ) (k a n : ℕ) → k % 2 ≡ 0 → gathered true (drop k m) a n ≡ gathered true m (k + a) n
unfolding gathered
gathered_from m k a zero h = refl
gathered_from m k a (suc n) h =
    let e : k + place true a ≡ place true (k + a) = omega arith in
    cc (get_or-drop k m (place true a) 0, add-suc k a, gathered_from m k (suc a) n h)

-- and in what it holds before an even c
gathered_before : (m : List ℕ) (c a n : ℕ) → c % 2 ≡ 0 → a + n ≤ c → gathered true (take c m) a n ≡ gathered true m a n
unfolding gathered
gathered_before m c a zero h g = refl
gathered_before m c a (suc n) h g = cc (get_or-take c m (place true a) 0 (place_in true a c (omega arith) h), gathered_before m c (suc a) n h (omega arith))

-- the words of a part, from the part alone
gathered_part : (m : List ℕ) (a n : ℕ) → a % 2 ≡ 0 → n % 2 ≡ 0 → gathered true (take n (drop a m)) 0 n ≡ gathered true m a n
gathered_part m a n h e = gathered_before (drop a m) n 0 n e (omega arith) ∙ rw (add-zero a) at (gathered_from m a 0 n h)

-- to place words is to store them with their bytes exchanged
placed_words : (m : List ℕ) (a : ℕ) (r : List ℕ) → a % 2 ≡ 0 → length r % 2 ≡ 0 → sets m a (gathered true r 0 (length r)) ≡ placed true m a r
unfolding placed gathered
placed_words m a [] h e = refl
placed_words m a (x ∷ []) h e = absurd (omega arith)
placed_words m a (x ∷ (y ∷ r)) h e =
    rw (low_place a h, high_place a h, set_comm m (suc a) a x y (λ f. omega arith), ← gathered_from (x ∷ (y ∷ r)) 2 0 (length r) refl)
    (placed_words (set (set m a y) (suc a) x) (suc (suc a)) r (omega arith) (omega arith))

-- the n bytes of r, which are whole words and go swapped, and then the rest from there on
pub scatter_words : (m d : List ℕ) (a i n : ℕ) {r s y : List ℕ} → r ≡ take n (drop i d) → s ≡ gathered true r 0 n → y ≡ sets m (a + i) s → (a + i) % 2 ≡ 0 → n % 2 ≡ 0 → i + n ≤ length d → placed true y (a + (i + n)) (drop (i + n) d) ≡ placed true m (a + i) (drop i d)
scatter_words m d a i n {r} p o q h e g =
    let long : length r ≡ n = rw p (length_part d i n g) in
    let whole : r ++ drop (i + n) d ≡ drop i d = rw (p, ← drop-drop n i d) (take-append-drop n (drop i d)) in
    rw (q, o, ← long, placed_words m (a + i) r h (rw long e)) (placed_at true m (a + i) (a + (i + length r)) r (drop (i + length r) d) (omega arith) ∙ rw (long, whole))

pub gather_words : (b m : List ℕ) (a i n k l : ℕ) {r s y : List ℕ} → r ≡ take n (drop (a + i) m) → s ≡ gathered true r 0 n → y ≡ sets b i s → (a + i) % 2 ≡ 0 → n % 2 ≡ 0 → l ≡ n + k → sets y (i + n) (gathered true m (a + (i + n)) k) ≡ sets b i (gathered true m (a + i) l)
gather_words b m a i n k l p o q h e f =
    let g : a + (i + n) ≡ a + i + n = omega arith in
    rw (q, o, p, f, g, gathered_part m (a + i) n h e, ← gathered_append true m (a + i) n k)
    (sets_at (gathered true m (a + i) n) (gathered true m (a + i + n) k) b i (i + n) (rw (length_gathered true m (a + i) n)))

-- what goes before the runs, from an odd address on: one byte, the second of its word, or none
module _ (m d : List ℕ) (a : ℕ) {x : List ℕ} {i : ℕ} (lead : i ≡ min (length d) (a % 2)) where
  pub scatter_first : i ≡ 1 → x ≡ set m (a - 1) (get_or d 0 0) → placed true x (a + i) (drop i d) ≡ placed true m a d
  scatter_first f e =
      let some : 0 < length d = omega arith in
      let there : a - 1 ≡ place true (a + 0) = omega arith in
      rw (e, f) (place_more true m d a 0 there some ∙ rw (add-zero a))

  pub scatter_none : (i ≡ 1 → ⊥) → x ≡ m → placed true x (a + i) (drop i d) ≡ placed true m a d
  scatter_none f e =
      let none : i ≡ 0 = omega arith in
      rw (e, none, add-zero a)

-- as many bytes as b has leave nothing of it
fills : (b m : List ℕ) (a : ℕ) → sets b 0 (gathered true m a (length b)) ≡ gathered true m a (length b)
fills b m a = sets_whole (gathered true m a (length b)) b (length_gathered true m a (length b))

module _ (b m : List ℕ) (a : ℕ) {x : List ℕ} {i : ℕ} (lead : i ≡ min (length b) (a % 2)) where
  pub gather_first : i ≡ 1 → x ≡ set b 0 (get_or m (a - 1) 0) → sets x i (gathered true m (a + i) (length b - i)) ≡ gathered true m a (length b)
  gather_first f e =
      let some : length b ≡ suc (length b - 1) = omega arith in
      let there : a - 1 ≡ place true (a + 0) = omega arith in
      rw (e, f) (gather_more true b m a 0 (length b - 1) (length b) there some ∙ rw (add-zero a) (fills b m a))

  pub gather_none : (i ≡ 1 → ⊥) → x ≡ b → sets x i (gathered true m (a + i) (length b - i)) ≡ gathered true m a (length b)
  gather_none f e =
      let none : i ≡ 0 = omega arith in
      rw (e, none, add-zero a, sub-zero (length b)) (fills b m a)
