-- Laws of `spanned`, and of the words that two walks cut out.
use mathlib.Core.Path.{◌≡◌, refl, sym, ap, ◌∙◌}
use mathlib.Core.Bool.{Bool, true, false, beq}
use mathlib.Core.List.{List, [], ◌∷◌}
use Prim.Native.Nat.{ℕ, zero, suc, ◌+◌, ◌-◌, ◌<◌, ◌≤◌}
use native.Mathlib.Numerals.{add-one}
use native.Mathlib.Nat.{zero-add}
use native.Mathlib.Omega.{arith}
use lib.Dec.{ltb}
use lib.ListN.{length, take, drop, length-drop, length-take}
use lib.Seq.{drop-drop, take_all}
use Rattle.lists.specs.Pick.{pick}
use Rattle.script.specs.Words.{spanned, over, starts_from, word_start, word_end, word_from}

either_low : (r : Bool) (a b n : ℕ) → a ≤ n → b ≤ n → pick r a b ≤ n
either_low true a b n h k = h
either_low false a b n h k = k

-- no more than the text is spanned
pub spanned_low : (b : Bool) (t : List ℕ) → spanned b t ≤ length t
unfolding spanned
spanned_low b [] = omega arith
spanned_low b (x ∷ t) = either_low (beq (ltb x 33) b) (suc (spanned b t)) 0 _ (omega (arith, spanned_low b t)) (omega arith)

pub pass_low : (t : List ℕ) (b : Bool) (i : ℕ) → i ≤ length t → i + spanned b (drop i t) ≤ length t
pass_low t b i h = omega (arith, spanned_low b (drop i t), length-drop i t)

-- what `position` counts
pub spanned_none : (b : Bool) → spanned b [] ≡ 0
unfolding spanned
spanned_none b = refl

pub spanned_hit : (b : Bool) (x : ℕ) (t : List ℕ) → beq (ltb x 33) b ≡ false → spanned b (x ∷ t) ≡ 0
unfolding spanned
spanned_hit b x t e = rw e

pub spanned_miss : (b : Bool) (x : ℕ) (t : List ℕ) → beq (ltb x 33) b ≡ true → spanned b (x ∷ t) ≡ spanned b t + 1
unfolding spanned
spanned_miss b x t e = rw e (sym (add-one (spanned b t)))

-- words lie within the line
pub over_low : (t : List ℕ) (k : ℕ) → over t k ≤ length t
unfolding over
over_low t zero = omega arith
over_low t (suc k) = pass_low t false (starts_from t (over t k)) (pass_low t true (over t k) (over_low t k))

pub word_within : (t : List ℕ) (k : ℕ) → (word_start t k ≤ word_end t k) × (word_end t k ≤ length t)
unfolding word_start word_end over
word_within t k = (omega arith, over_low t (suc k))

pub word_length : (t : List ℕ) (k : ℕ) → length (word_from t k) ≡ word_end t k - word_start t k
unfolding word_from
word_length t k =
    let w = word_within t k in
    omega (arith, length-take (word_end t k - word_start t k) (drop (word_start t k) t), length-drop (word_start t k) t, w.0, w.1)

-- what is left of a text that is cut at a place
pub cut_here : (n : ℕ) (t : List ℕ) → take (length t - n) (drop n t) ≡ drop n t
cut_here n t = take_all (length t - n) (drop n t) (omega (arith, length-drop n t))

-- the walks over the first word, and the words before word k
pub word_first : (t : List ℕ) (n : ℕ) → n ≡ spanned true t → take (length t - n) (drop n t) ≡ drop (word_start t 0) t
unfolding word_start over
word_first t n e = cut_here n t ∙ ap (λ (m : ℕ). drop m t) (e ∙ sym (zero-add (spanned true t)))

pub word_beyond : (t w : List ℕ) (n : ℕ) → w ≡ drop (word_start t 0) t → n ≡ spanned false w → take (length w - n) (drop n w) ≡ drop (word_end t 0) t
unfolding word_start word_end over
word_beyond t w n p e = cut_here n w ∙ rw (e, p) (drop-drop (spanned false (drop (starts_from t 0) t)) (starts_from t 0) t)

pub over_none : (t : List ℕ) → t ≡ drop (over t 0) t
unfolding over
over_none t = refl

-- a walk that starts behind k words
over_on : (t : List ℕ) (k : ℕ) → over t (suc k) ≡ over t k + over (drop (over t k) t) 1
unfolding over
over_on t k =
    let n = over t k in
    let s = spanned true (drop n t) in
    let e : drop s (drop n t) ≡ drop (n + s) t = drop-drop s n t in
    rw (zero-add s, e) (omega arith)

pub over_more : (t r r' : List ℕ) (k : ℕ) → r ≡ drop (over t k) t → r' ≡ drop (word_end r 0) r → r' ≡ drop (over t (k + 1)) t
unfolding word_end
over_more t r r' k p q =
    let e : drop (over r 1) r ≡ drop (over t k + over (drop (over t k) t) 1) t = rw p (drop-drop (over (drop (over t k) t) 1) (over t k) t) in
    rw (add-one k, over_on t k, ← e) q

pub word_is : (t : List ℕ) (k i n : ℕ) (r w : List ℕ) → k ≡ i → r ≡ drop (over t i) t → w ≡ drop (word_start r 0) r → n ≡ spanned false w → take n w ≡ word_from t k
unfolding word_start word_end word_from over
word_is t k i n r w e p q f =
    let s = starts_from t (over t k) in
    let a : w ≡ drop s t = q ∙ rw (p, ← e, zero-add) (drop-drop (spanned true (drop (over t k) t)) (over t k) t) in
    let b : s + spanned false (drop s t) - s ≡ spanned false (drop s t) = omega arith in
    rw (f, a, b)

-- where nothing is left, all words behind are empty
over_stays : (t : List ℕ) (n : ℕ) → over t n ≡ length t → over t (suc n) ≡ length t
unfolding over
over_stays t n e = omega (arith, e, over_low t (suc n))

over_end : (t : List ℕ) (i d : ℕ) → over t i ≡ length t → over t (i + d) ≡ length t
over_end t i zero e =
    let z : i + 0 ≡ i = omega arith in
    rw z e
over_end t i (suc d) e =
    let z : i + suc d ≡ suc (i + d) = omega arith in
    rw z (over_stays t (i + d) (over_end t i d e))

pub span_none : (t r : List ℕ) (i k : ℕ) → i < k → r ≡ drop (over t i) t → length r ≡ 0 → (length t ≡ word_start t k) × (length t ≡ word_end t k)
unfolding word_start word_end
span_none t r i k h p z =
    let at : over t i ≡ length t = omega (arith, ap length p, length-drop (over t i) t, over_low t i, z) in
    let e : i + (k - i) ≡ k = omega arith in
    let to : over t k ≡ length t = rw e at (over_end t i (k - i) at) in
    let last : over t (suc k) ≡ length t = over_stays t k to in
    let within = word_within t k in
    (omega (arith, within.0, within.1, to, last), sym last)

-- where a word stands, by what is left of the text from it on
pub span_is : (t : List ℕ) (k i n : ℕ) (r w : List ℕ) → k ≡ i → r ≡ drop (over t i) t → w ≡ drop (word_start r 0) r → n ≡ spanned false w
    → (length t - length w ≡ word_start t k) × (length t - length w + n ≡ word_end t k)
unfolding word_start word_end over
span_is t k i n r w e p q f =
    let s = starts_from t (over t k) in
    let a : w ≡ drop s t = q ∙ rw (p, ← e, zero-add) (drop-drop (spanned true (drop (over t k) t)) (over t k) t) in
    let l : s ≤ length t = pass_low t true (over t k) (over_low t k) in
    let c : length t - length w ≡ s = rw a (omega (arith, length-drop s t, l)) in
    (c, rw (c, f, a))
