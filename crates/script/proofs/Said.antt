-- Laws of digits and of the numbers that they say.
use mathlib.Core.Path.{◌≡◌, refl, sym, ap, ◌∙◌}
use mathlib.Core.Bool.{Bool, true, false, cond, ◌&&◌}
use mathlib.Core.List.{List, [], ◌∷◌}
use Prim.Native.Nat.{ℕ, suc, ◌+◌, ◌-◌, ◌*◌, ◌≤◌, ◌<◌}
use native.Mathlib.Numerals.{add-one}
use native.Mathlib.Omega.{arith}
use borrow.Author.Tests.{eqb-false, eqb-true, le-leb, lt-leb, lt-ltb, le-ltb, ltb-false, ltb-true, ne_eqb}
use lib.Dec.{eqb, ltb}
use lib.ListN.{length, take, drop, get_or}
use lib.Seq.{drop-cons, drop-length}
use Rattle.std.specs.Prelude.{Option, Some, None, SomeIff, Result, Ok, Err, IsErrAnd, ok_or}
use Rattle.std.specs.Char.{digit_value}
use Rattle.std.specs.List.{starts_with}
use Rattle.lists.proofs.Cases.{by_test}
use Rattle.script.proofs.Passing.{cut_here}
use Rattle.script.specs.declared.Fault.{Fault}
use Rattle.script.specs.declared.Fault.TheVariants as fault
use Rattle.script.specs.Words.{word_from}
use Rattle.script.specs.Numbers.{between, digit_of, hexed, joined, number_in, said, three_of, wanted_of}

inside : (a b x : ℕ) → a ≤ x → x ≤ b → between a b x ≡ true
inside a b x h k = rw (le-leb a x h, le-leb x b k)

below : (a b x : ℕ) → x < a → between a b x ≡ false
below a b x h = rw (lt-leb a x h)

above : (a b x : ℕ) → a ≤ x → b < x → between a b x ≡ false
above a b x k h = rw (le-leb a x k, lt-leb x b h)

-- a digit below 16, as the standard library values it
module _ (x : ℕ) where
  abbrev pub seen : Option ℕ
  seen = cond (ltb (digit_value x) 16) (Some (digit_value x)) None

  none : between 48 57 x ≡ false → between 65 70 x ≡ false → between 97 102 x ≡ false → None ≡ digit_of x
  unfolding digit_of
  none p q r = rw (p, q, r)

  decimal : 48 ≤ x → x ≤ 57 → Some (x - 48) ≡ digit_of x
  unfolding digit_of
  decimal h k = rw (inside 48 57 x h k)

  upper : 65 ≤ x → x ≤ 70 → Some (x - 55) ≡ digit_of x
  unfolding digit_of
  upper h k = rw (above 48 57 x (omega arith) (omega arith), inside 65 70 x h k)

  lower : 97 ≤ x → x ≤ 102 → Some (x - 87) ≡ digit_of x
  unfolding digit_of
  lower h k = rw (above 48 57 x (omega arith) (omega arith), above 65 70 x (omega arith) (omega arith), inside 97 102 x h k)

  digit_seen : seen ≡ digit_of x
  digit_seen =
      by_test (ltb x 48) (λ a. let h = ltb-true x 48 a in rw a (none (below 48 57 x h) (below 65 70 x (omega arith)) (below 97 102 x (omega arith))))
      (λ a. let h = ltb-false x 48 a in by_test (ltb x 58)
      (λ b. let k = ltb-true x 58 b in rw (a, b, lt-ltb (x - 48) 16 (omega arith)) (decimal h (omega arith)))
      (λ b. let k = ltb-false x 58 b in by_test (ltb x 65)
      (λ d. let l = ltb-true x 65 d in rw (a, b, d) (none (above 48 57 x h (omega arith)) (below 65 70 x l) (below 97 102 x (omega arith))))
      (λ d. let l = ltb-false x 65 d in by_test (ltb x 91)
      (λ e. by_test (ltb x 71)
      (λ f. let m = ltb-true x 71 f in rw (a, b, d, e, lt-ltb (x - 55) 16 (omega arith)) (upper l (omega arith)))
      (λ f. let m = ltb-false x 71 f in let n = ltb-true x 91 e in rw (a, b, d, e, le-ltb (x - 55) 16 (omega arith)) (none (above 48 57 x h (omega arith)) (above 65 70 x l (omega arith)) (below 97 102 x (omega arith)))))
      (λ e. let m = ltb-false x 91 e in by_test (ltb x 97)
      (λ f. let n = ltb-true x 97 f in rw (a, b, d, e, f) (none (above 48 57 x h (omega arith)) (above 65 70 x l (omega arith)) (below 97 102 x n)))
      (λ f. let n = ltb-false x 97 f in by_test (ltb x 123)
      (λ g. by_test (ltb x 103)
      (λ i. let o = ltb-true x 103 i in rw (a, b, d, e, f, g, lt-ltb (x - 87) 16 (omega arith)) (lower n (omega arith)))
      (λ i. let o = ltb-false x 103 i in rw (a, b, d, e, f, g, le-ltb (x - 87) 16 (omega arith)) (none (above 48 57 x h (omega arith)) (above 65 70 x l (omega arith)) (above 97 102 x n (omega arith)))))
      (λ g. let o = ltb-false x 123 g in rw (a, b, d, e, f, g) (none (above 48 57 x h (omega arith)) (above 65 70 x l (omega arith)) (above 97 102 x n (omega arith)))))))))

  pub digit_is : (y : ℕ) (r : Option ℕ) → y ≡ x → SomeIff r (digit_value y < 16) (digit_value y) → r ≡ digit_of x
  digit_is y None q h = (rw (le-ltb (digit_value x) 16 (omega (arith, rw q at h)))) ∙ digit_seen
  digit_is y (Some d) q (h, e) =
      let l : digit_value x < 16 = rw q at h in
      rw (e, q) (sym (taken (lt-ltb (digit_value x) 16 l)) ∙ digit_seen)
    where
      taken : ltb (digit_value x) 16 ≡ true → seen ≡ Some (digit_value x)
      taken e = rw e

-- one digit more
module _ (base v : ℕ) (r : Option ℕ) where
  pub joined_none : r ≡ None → Err fault.NumberWrong ≡ joined base v r
  unfolding joined
  joined_none e = rw e

  module _ (d : ℕ) (e : r ≡ Some d) where
    pub joined_wrong : base ≤ d → Err fault.NumberWrong ≡ joined base v r
    unfolding joined
    joined_wrong h = rw (e, le-ltb d base h)

    pub joined_large : d < base → 18446744073709551615 < v * base + d → Err fault.NumberTooLarge ≡ joined base v r
    unfolding joined
    joined_large h k = rw (e, lt-ltb d base h, lt-leb (v * base + d) 18446744073709551615 k)

    pub joined_is : d < base → v * base + d ≤ 18446744073709551615 → Ok (v * base + d) ≡ joined base v r
    unfolding joined
    joined_is h k = rw (e, lt-ltb d base h, le-leb (v * base + d) 18446744073709551615 k)

    -- as the sum is made, with a test for each step
    pub joined_made : (m : ℕ) (o : Option ℕ) → m ≡ v * base → d < base → SomeIff o (m + d < 18446744073709551616) (m + d) → ok_or o fault.NumberTooLarge ≡ joined base v r
    joined_made m None p h k = joined_large h (omega (arith, rw p at k))
    joined_made m (Some s) p h (k, f) =
        let l : v * base + d ≤ 18446744073709551615 = omega (arith, rw p at k) in
        rw (f, p) (joined_is h l)

    pub joined_over : (o : Option ℕ) → o ≡ None → d < base → SomeIff o (v * base < 18446744073709551616) (v * base) → Err fault.NumberTooLarge ≡ joined base v r
    joined_over None p h k = joined_large h (omega (arith, k))
    joined_over (Some m) p h k = absurd (no_value p)
      where
        no_value : {A : Type 0} {x : A} → Some x ≡ None → ⊥
        no_value e = cc e

pub product : (o : Option ℕ) (P : Type 0) (m x : ℕ) → SomeIff o P m → o ≡ Some x → x ≡ m
product None P m x h e = cc e
product (Some y) P m x (h, f) e = cc (e, f)

-- what a `?` returns
pub refused : {A : Type 0} (r : Result A Fault) (e : Fault) → IsErrAnd r (λ x. x ≡ e) → r ≡ Err e
refused (Ok x) e h = absurd h
refused (Err x) e h = ap Err h

-- the walk of `digits`
module _ (base v i : ℕ) (t : List ℕ) where
  module _ (h : i < length t) (r : Result ℕ Fault) (f : r ≡ joined base v (digit_of (get_or t i 0))) where
    pub said_wrong : (w : Fault) → r ≡ Err w → said base v (drop i t) ≡ Err w
    unfolding said
    said_wrong w g = rw (drop-cons t i 0 h, ← f, g)

    pub said_on : (n : ℕ) → r ≡ Ok n → said base v (drop i t) ≡ said base n (drop (i + 1) t)
    unfolding said
    said_on n g = rw (add-one i, drop-cons t i 0 h, ← f, g)

  pub said_end : i ≤ length t → length t ≤ i → said base v (drop i t) ≡ Ok v
  unfolding said
  said_end h k =
      let e : i ≡ length t = omega arith in
      rw (e, drop-length t)

-- a whole word
hexed_is : (t : List ℕ) → hexed t ≡ (ltb 2 (length t) && starts_with eqb t (48 ∷ (120 ∷ [])))
unfolding hexed
hexed_is [] = refl
hexed_is (x ∷ []) = refl
hexed_is (x ∷ (y ∷ [])) = refl
hexed_is (x ∷ (y ∷ (z ∷ t))) =
    rw (le-leb 3 (suc (suc (suc (length t)))) (omega arith))
    (by_test (eqb x 48)
    (λ e. by_test (eqb y 120)
    (λ f. rw (eqb-true x 48 e, eqb-true y 120 f))
    (λ f. rw (eqb-true x 48 e, f, ne_eqb 120 y (λ (q : 120 ≡ y). eqb-false y 120 f (sym q)))))
    (λ e. rw (e, ne_eqb 48 x (λ (q : 48 ≡ x). eqb-false x 48 e (sym q)))))

module _ (t : List ℕ) where
  pub number_missing : eqb (length t) 0 ≡ true → Err fault.NumberMissing ≡ number_in t
  unfolding number_in
  number_missing e = rw e

  module _ (r : Result ℕ Fault) (e : eqb (length t) 0 ≡ false) (s : Bool) (p : s ≡ starts_with eqb t (48 ∷ (120 ∷ []))) where
    pub number_hex : (ltb 2 (length t) && s) ≡ true → r ≡ said 16 0 (take (length t - 2) (drop 2 t)) → r ≡ number_in t
    unfolding number_in
    number_hex h q =
        let f : hexed t ≡ true = rw (hexed_is t, ← p) h in
        let k : said 16 0 (take (length t - 2) (drop 2 t)) ≡ said 16 0 (drop 2 t) = ap (said 16 0) (cut_here 2 t) in
        rw (e, f) (q ∙ k)

    pub number_ten : (ltb 2 (length t) && s) ≡ false → r ≡ said 10 0 t → r ≡ number_in t
    unfolding number_in
    number_ten h q =
        let f : hexed t ≡ false = rw (hexed_is t, ← p) h in
        rw (e, f) q

-- words of a line as numbers
module _ (t : List ℕ) (k last : ℕ) where
  pub beyond_last : last < k → Ok 0 ≡ wanted_of t k last
  unfolding wanted_of
  beyond_last h = rw (lt-ltb last k h)

  pub up_to_last : (r : Result ℕ Fault) → k ≤ last → r ≡ number_in (word_from t k) → r ≡ wanted_of t k last
  unfolding wanted_of
  up_to_last r h e = rw (le-ltb last k h) e

module _ (x y z : Result ℕ Fault) where
  pub first_wrong : (e : Fault) → x ≡ Err e → Err e ≡ three_of x y z
  unfolding three_of
  first_wrong e p = rw p

  pub second_wrong : (e : Fault) (m : ℕ) → x ≡ Ok m → y ≡ Err e → Err e ≡ three_of x y z
  unfolding three_of
  second_wrong e m p q = rw (p, q)

  pub third_wrong : (e : Fault) (m n : ℕ) → x ≡ Ok m → y ≡ Ok n → z ≡ Err e → Err e ≡ three_of x y z
  unfolding three_of
  third_wrong e m n p q r = rw (p, q, r)

  pub all_three : (m n o : ℕ) → x ≡ Ok m → y ≡ Ok n → z ≡ Ok o → Ok (m, n, o) ≡ three_of x y z
  unfolding three_of
  all_three m n o p q r = rw (p, q, r)
