-- What the definitions mean: words hold no blank and end at one, the word that is sought is the first, and digits say the number that they are in their base.
use mathlib.Core.Path.{◌≡◌, refl, sym, ap, ◌∙◌}
use mathlib.Core.Bool.{Bool, true, false, not, beq}
use mathlib.Core.List.{List, [], ◌∷◌}
use Prim.Native.Nat.{ℕ, zero, suc, ◌+◌, ◌-◌, ◌*◌, ◌^◌, ◌≤◌, ◌<◌}
use native.Mathlib.Nat.{add-zero, le-mul_of_pos_right, one-le-pow, add_assoc, add-mul, mul_assoc, mul_comm, mul-one, pow-suc, pow-zero}
use native.Mathlib.Omega.{arith}
use borrow.Author.Tests.{eqb-true, eqb-false, le-leb, lt-ltb, ltb-false, ltb-true}
use lib.Dec.{eqb, leb, ltb}
use lib.ListN.{length, drop, get_or, length-drop, length-take}
use lib.Seq.{get_or-drop, get_or-take}
use Rattle.lists.proofs.Cases.{by_test}
use Rattle.std.specs.Prelude.{Option, Some, None, Result, Ok, Err, IsSome, IsSomeAnd, MatchOption, bytes_eq, unwrap_or}
use Rattle.std.specs.Cmp.Lexicographic.{other_text, same_text}
use Rattle.script.specs.declared.Fault.{Fault}
use Rattle.script.specs.Words.{last_end, over, spanned, place_from, place_of, starts_from, word_end, word_from, word_start}
use Rattle.script.specs.Numbers.{digit_of, joined, onward, said}
use Rattle.script.proofs.Found.{Is}

clash : {A : Type 0} → ◌≡◌ {A = ℕ} 0 1 → A
clash e = absurd (omega arith)

same_kind : (p q : Bool) → beq p q ≡ true → p ≡ q
same_kind true true e = refl
same_kind false false e = refl
same_kind true false e = clash (cc)
same_kind false true e = clash (cc)

other_kind : (p q : Bool) → beq p q ≡ false → p ≡ not q
other_kind true false e = refl
other_kind false true e = refl
other_kind true true e = clash (cc)
other_kind false false e = clash (cc)

-- the bytes that are spanned are all of the kind that is spanned, and the one behind them is not
spanned_kind : (b : Bool) (t : List ℕ) (i : ℕ) → i < spanned b t → ltb (get_or t i 0) 33 ≡ b
unfolding spanned
spanned_kind b [] i h = absurd (omega arith)
spanned_kind b (x ∷ t) zero h =
    by_test (beq (ltb x 33) b) (λ e. same_kind (ltb x 33) b e) (λ e. absurd (omega (arith, rw e at h)))
spanned_kind b (x ∷ t) (suc i) h =
    by_test (beq (ltb x 33) b) (λ e. spanned_kind b t i (omega (arith, rw e at h))) (λ e. absurd (omega (arith, rw e at h)))

spanned_stop : (b : Bool) (t : List ℕ) → spanned b t < length t → ltb (get_or t (spanned b t) 0) 33 ≡ not b
unfolding spanned
spanned_stop b [] h = absurd (omega arith)
spanned_stop b (x ∷ t) h =
    by_test (beq (ltb x 33) b) (λ e. rw e (spanned_stop b t (omega (arith, rw e at h)))) (λ e. rw e (other_kind (ltb x 33) b e))

-- no byte of a word is blank, and the one behind it is
pub word_solid : (t : List ℕ) (k i : ℕ) → i < length (word_from t k) → ltb (get_or (word_from t k) i 0) 33 ≡ false
unfolding word_from word_start word_end over
word_solid t k i h =
    let s = starts_from t (over t k) in
    let e : s + spanned false (drop s t) - s ≡ spanned false (drop s t) = omega arith in
    let l : i < s + spanned false (drop s t) - s = omega (arith, length-take (s + spanned false (drop s t) - s) (drop s t)) in
    rw (get_or-take (s + spanned false (drop s t) - s) (drop s t) i 0 l) (spanned_kind false (drop s t) i (omega arith))

pub word_ended : (t : List ℕ) (k : ℕ) → word_end t k < length t → ltb (get_or t (word_end t k) 0) 33 ≡ true
unfolding word_end over
word_ended t k h =
    let s = starts_from t (over t k) in
    rw (← get_or-drop s t (spanned false (drop s t)) 0) (spanned_stop false (drop s t) (omega (arith, length-drop s t)))

-- behind the last word all is blank, and its last byte is not
shorter : (x : ℕ) (t : List ℕ) (i : ℕ) → last_end (x ∷ t) ≤ suc i → last_end t ≤ i
unfolding last_end
shorter x t i h = by_test (eqb (last_end t) 0) (λ e. omega (arith, eqb-true (last_end t) 0 e)) (λ e. omega (arith, rw e at h))

pub last_blank : (t : List ℕ) (i : ℕ) → last_end t ≤ i → i < length t → get_or t i 0 < 33
unfolding last_end
last_blank [] i h k = absurd (omega arith)
last_blank (x ∷ t) zero h k =
    by_test (eqb (last_end t) 0)
    (λ e. by_test (ltb x 33) (λ f. ltb-true x 33 f) (λ f. absurd (omega (arith, rw (e, f) at h))))
    (λ e. absurd (omega (arith, rw e at h)))
last_blank (x ∷ t) (suc i) h k = last_blank t i (shorter x t i h) (omega arith)

pub last_word : (t : List ℕ) → 0 < last_end t → 32 < get_or t (last_end t - 1) 0
unfolding last_end
last_word [] h = absurd (omega arith)
last_word (x ∷ t) h =
    by_test (eqb (last_end t) 0)
    (λ e. by_test (ltb x 33) (λ f. absurd (omega (arith, rw (e, f) at h))) (λ f. rw (e, f) (ltb-false x 33 f)))
    (λ e. let z : last_end t ≡ 0 → ⊥ = eqb-false (last_end t) 0 e in
    let q : suc (last_end t) - 1 ≡ suc (last_end t - 1) = omega arith in
    rw (e, q) (last_word t (omega arith)))

-- the word at the place that is found is the one sought, and no earlier one is
module _ (l w : List ℕ) where
  abbrev NoneIn : ℕ → ℕ → Type 0
  NoneIn k n = (j : ℕ) → k ≤ j → j < k + n → Is l w j false

  record FirstIn (k n i : ℕ) : Type 0 where
    behind : k ≤ i
    low : i < k + n
    is : Is l w i true
    first : (j : ℕ) → k ≤ j → j < i → Is l w j false

  abbrev From : ℕ → ℕ → Option ℕ → Type 0
  From k n o = MatchOption o (NoneIn k n) (λ i. FirstIn k n i)

  other : (k j : ℕ) → (k < j → Is l w j false) → Is l w k false → k ≤ j → Is l w j false
  other k j h e a = by_test (eqb j k) (λ q. rw (eqb-true j k q) e) (λ q. let z : j ≡ k → ⊥ = eqb-false j k q in h (omega arith))

  later : (k n : ℕ) (o : Option ℕ) → Is l w k false → From (suc k) n o → From k (suc n) o
  later k n None e h = λ j a b. other k j (λ c. h j (omega arith) (omega arith)) e a
  later k n (Some i) e h =
      let b = h.behind in
      let u = h.low in
      record { behind = omega arith; low = omega arith; is = h.is; first = λ j a d. other k j (λ c. h.first j (omega arith) (omega arith)) e a }

  from_says : (k n : ℕ) → From k n (place_from l w k n)
  unfolding place_from
  from_says k zero = λ j a b. absurd (omega arith)
  from_says k (suc n) =
      by_test (bytes_eq (word_from l k) w)
      (λ e. rw e (record { behind = omega arith; low = omega arith; is = e; first = λ j a b. absurd (omega arith) }))
      (λ e. rw e (later k n (place_from l w (suc k) n) e (from_says (suc k) n)))

  at : (k : ℕ) → place_of l w ≡ Some k → FirstIn 0 (length l) k
  at k e = rw e at (from_says 0 (length l))

  nowhere : place_of l w ≡ None → NoneIn 0 (length l)
  nowhere e = rw e at (from_says 0 (length l))

  pub place_low : (k : ℕ) → place_of l w ≡ Some k → k < length l
  place_low k e = let f = (at k e).low in omega arith

  pub place_is : (k : ℕ) → place_of l w ≡ Some k → word_from l k ≡ w
  place_is k e = same_text (word_from l k) w (sym (at k e).is)

  pub place_first : (k j : ℕ) → place_of l w ≡ Some k → j < k → word_from l j ≡ w → ⊥
  place_first k j e h = other_text (word_from l j) w (sym ((at k e).first j (omega arith) h))

  pub place_none : (j : ℕ) → place_of l w ≡ None → j < length l → word_from l j ≡ w → ⊥
  place_none j e h = other_text (word_from l j) w (sym (nowhere e j (omega arith) (omega arith)))

-- each word takes a byte or more, so a word that stands in the list is found
taken : (t : List ℕ) (a : ℕ) → starts_from t a < length t → 0 < spanned false (drop (starts_from t a) t)
taken t a h =
    let s = starts_from t a in
    let p : ltb (get_or t s 0) 33 ≡ false = sym (ap (λ (x : ℕ). ltb x 33) (get_or-drop a t (spanned true (drop a t)) 0)) ∙ spanned_stop true (drop a t) (omega (arith, length-drop a t)) in
    by_test (eqb (spanned false (drop s t)) 0)
    (λ e.
    let z : spanned false (drop s t) ≡ 0 = eqb-true (spanned false (drop s t)) 0 e in
    let q : ltb (get_or (drop s t) (spanned false (drop s t)) 0) 33 ≡ true = spanned_stop false (drop s t) (omega (arith, length-drop s t)) in
    let r : ltb (get_or t s 0) 33 ≡ true = sym (ap (λ (x : ℕ). ltb x 33) (get_or-drop s t 0 0 ∙ ap (λ (i : ℕ). get_or t i 0) (add-zero s))) ∙ (rw z at q) in
    clash (cc))
    (λ e. let z : spanned false (drop s t) ≡ 0 → ⊥ = eqb-false (spanned false (drop s t)) 0 e in omega arith)

over_high : (t : List ℕ) (k : ℕ) → over t k < length t → k ≤ over t k
unfolding over
over_high t zero h = omega arith
over_high t (suc k) h = omega (arith, over_high t k (omega arith), taken t (over t k) (omega arith))

word_low : (t : List ℕ) (k : ℕ) → 0 < length (word_from t k) → k < length t
unfolding word_from word_start word_end over
word_low t k h =
    let s = starts_from t (over t k) in
    let l : s < length t = omega (arith, length-take (s + spanned false (drop s t) - s) (drop s t), length-drop s t) in
    omega (arith, over_high t k (omega arith))

pub place_all : (l w : List ℕ) (k : ℕ) → 0 < length w → word_from l k ≡ w → IsSome (place_of l w)
place_all l w k h e =
    let n : k < length l = word_low l k (rw e h) in
    by (place_of l w) (λ f. place_none l w k f n e)
  where
    by : (o : Option ℕ) → (o ≡ None → ⊥) → IsSome o
    by None h = absurd (h refl)
    by (Some j) h = refl

-- the number that digits are in base b
abbrev pub worth : ℕ → List ℕ → ℕ
worth b [] = 0
worth b (x ∷ t) = unwrap_or (digit_of x) 0 * b ^ length t + worth b t

one_more : (v b d p w : ℕ) → (v * b + d) * p + w ≡ v * (p * b) + (d * p + w)
one_more v b d p w = rw (add-mul (v * b) d p, mul_assoc v b p, mul_comm b p, add_assoc (v * (p * b)) (d * p) w)

-- a digit that was joined
joined_one : (b v n : ℕ) (o : Option ℕ) (t : List ℕ) → onward (joined b v o) (λ m. said b m t) ≡ Ok n → (d : ℕ) × (o ≡ Some d) × (said b (v * b + d) t ≡ Ok n)
unfolding joined
joined_one b v n None t h = absurd (no_number h)
  where
    no_number : {e : Fault} {m : ℕ} → ◌≡◌ {A = Result ℕ Fault} (Err e) (Ok m) → ⊥
    no_number e = cc e
joined_one b v n (Some d) t h =
    by_test (ltb d b)
    (λ e. by_test (leb (v * b + d) 18446744073709551615)
    (λ f. (d, refl, rw (e, f) at h))
    (λ f. absurd (no_number (rw (e, f) at h))))
    (λ e. absurd (no_number (rw e at h)))
  where
    no_number : {e : Fault} {m : ℕ} → ◌≡◌ {A = Result ℕ Fault} (Err e) (Ok m) → ⊥
    no_number e = cc e

more_is : (b v n x d : ℕ) (t : List ℕ) → digit_of x ≡ Some d → n ≡ (v * b + d) * b ^ length t + worth b t → n ≡ v * b ^ suc (length t) + (unwrap_or (digit_of x) 0 * b ^ length t + worth b t)
more_is b v n x d t p q = q ∙ one_more v b d (b ^ length t) (worth b t) ∙ rw (pow-suc b (length t), p)

pub said_is : (b v : ℕ) (t : List ℕ) (n : ℕ) → said b v t ≡ Ok n → n ≡ v * b ^ length t + worth b t
unfolding said
said_is b v [] n h =
    let e : v ≡ n = cc h in
    rw (pow-zero b, mul-one v, e) (omega arith)
said_is b v (x ∷ t) n h =
    let m = joined_one b v n (digit_of x) t h in
    more_is b v n x m.0 t m.1 (said_is b (v * b + m.0) t n m.2)

-- and every text of digits whose number fits says it
fits : (m p w n : ℕ) → 0 < p → m * p + w ≤ n → m ≤ n
fits m p w n h k = omega (arith, le-mul_of_pos_right m h)

pub said_all : (b v : ℕ) (t : List ℕ) → 0 < b → ((i : ℕ) → i < length t → IsSomeAnd (digit_of (get_or t i 0)) (λ d. d < b)) → v * b ^ length t + worth b t ≤ 18446744073709551615 → said b v t ≡ Ok (v * b ^ length t + worth b t)
unfolding said joined
said_all b v [] p d h =
    let e : v ≡ v * b ^ 0 + 0 = rw (pow-zero b, mul-one v) (omega arith) in
    ap Ok e
said_all b v (x ∷ t) p h l = by (λ d k. said_all b (v * b + d) t p (λ i u. h (suc i) (omega arith)) k) (digit_of x) refl (h 0 (omega arith))
  where
    by : ((d : ℕ) → (v * b + d) * b ^ length t + worth b t ≤ 18446744073709551615 → said b (v * b + d) t ≡ Ok ((v * b + d) * b ^ length t + worth b t)) → (o : Option ℕ) → digit_of x ≡ o → IsSomeAnd o (λ d. d < b) → onward (joined b v (digit_of x)) (λ n. said b n t) ≡ Ok (v * b ^ suc (length t) + (unwrap_or (digit_of x) 0 * b ^ length t + worth b t))
    by rest None e u = absurd u
    by rest (Some d) e u =
        let q : (v * b + d) * b ^ length t + worth b t ≡ v * b ^ suc (length t) + (d * b ^ length t + worth b t) = one_more v b d (b ^ length t) (worth b t) ∙ rw (pow-suc b (length t)) in
        let k : (v * b + d) * b ^ length t + worth b t ≤ 18446744073709551615 = rw q (rw e at l) in
        let f : v * b + d ≤ 18446744073709551615 = fits (v * b + d) (b ^ length t) (worth b t) 18446744073709551615 (one-le-pow (length t) b p) k in
        rw (e, lt-ltb d b u, le-leb (v * b + d) 18446744073709551615 f)
        (rest d k ∙ ap Ok q)
