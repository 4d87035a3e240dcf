-- Halving, of whatever bytes: how many turns are enough, what the last place tells, that it stays inside, and what stands on either side of where it ends.
use mathlib.Core.Path.{◌≡◌, refl, sym, ap₂}
use mathlib.Core.Bool.{false}
use mathlib.Core.List.{List}
use Prim.Native.Nat.{ℕ, zero, suc, ◌+◌, ◌-◌, ◌/◌, ◌≤◌, ◌<◌}
use native.Mathlib.Omega.{arith}
use borrow.Author.Tests.{eq-eqb, eqb-false, eqb-true, le-ltb, lt-ltb, ltb-false, ltb-true, ne_eqb}
use lib.Dec.{eqb, eqb-suc-zero, ltb}
use Rattle.lists.specs.Pick.{pick}
use Rattle.lists.proofs.Cases.{by_test, pick_told}
use Rattle.index.specs.Halving.{halved, number_in, searched}

module _ (tb : List ℕ) (field v : ℕ) where
  -- no place left, none looked at
  pub none_left : (turns lo n : ℕ) → n ≡ 0 → searched turns tb field v lo n ≡ lo
  unfolding searched
  none_left zero lo n e = refl
  none_left (suc turns) lo n e = rw (eq-eqb n 0 e)

  -- any two numbers of turns that are enough
  pub turns_enough : (t u lo n : ℕ) → n ≤ t → n ≤ u → searched t tb field v lo n ≡ searched u tb field v lo n
  unfolding searched
  turns_enough zero u lo n h k = sym (none_left u lo n (omega arith))
  turns_enough (suc t) zero lo n h k = none_left (suc t) lo n (omega arith)
  turns_enough (suc t) (suc u) lo n h k =
      let at = lo + n / 2 in
      ap₂ (λ (a b : ℕ). pick (eqb n 0) lo (pick (ltb (number_in tb field at) v) a b)) (turns_enough t u (at + 1) (n - n / 2 - 1) (omega arith) (omega arith)) (turns_enough t u lo (n / 2) (omega arith) (omega arith))

  -- one turn, where a place is left: the other half needs no more turns than it has places
  turn : (lo n : ℕ) → 0 < n → searched n tb field v lo n ≡ pick (ltb (number_in tb field (lo + n / 2)) v) (searched (n - n / 2 - 1) tb field v (lo + n / 2 + 1) (n - n / 2 - 1)) (searched (n / 2) tb field v lo (n / 2))
  unfolding searched
  turn lo zero h = absurd (omega arith)
  turn lo (suc m) h =
      let n = suc m in
      let at = lo + n / 2 in
      rw (eqb-suc-zero m)
      (ap₂ (λ (a b : ℕ). pick (ltb (number_in tb field at) v) a b) (turns_enough m (n - n / 2 - 1) (at + 1) (n - n / 2 - 1) (omega arith) (omega arith)) (turns_enough m (n / 2) lo (n / 2) (omega arith) (omega arith)))

  pub turn_behind : (lo n : ℕ) → 0 < n → number_in tb field (lo + n / 2) < v → searched (n - n / 2 - 1) tb field v (lo + n / 2 + 1) (n - n / 2 - 1) ≡ searched n tb field v lo n
  turn_behind lo n h b = rw (turn lo n h, lt-ltb (number_in tb field (lo + n / 2)) v b)

  pub turn_before : (lo n : ℕ) → 0 < n → v ≤ number_in tb field (lo + n / 2) → searched (n / 2) tb field v lo (n / 2) ≡ searched n tb field v lo n
  turn_before lo n h b = rw (turn lo n h, le-ltb (number_in tb field (lo + n / 2)) v b)

  -- no place at all; the last below v; the halving
  pub halved_none : (n : ℕ) → n ≡ 0 → 0 ≡ halved tb field v n
  unfolding halved
  halved_none n e = rw (eq-eqb n 0 e)

  pub halved_all : (n last : ℕ) → (n ≡ 0 → ⊥) → last ≡ number_in tb field (n - 1) → last < v → n ≡ halved tb field v n
  unfolding halved
  halved_all n last h e l = rw (ne_eqb n 0 h, ← e, lt-ltb last v l)

  pub halved_else : (n last : ℕ) → (n ≡ 0 → ⊥) → last ≡ number_in tb field (n - 1) → v ≤ last → searched n tb field v 0 n ≡ halved tb field v n
  unfolding halved
  halved_else n last h e l = rw (ne_eqb n 0 h, ← e, le-ltb last v l)

  -- where the halving among the n places from lo on ends: inside, behind a place below v, before one that is not
  record Sides (lo n at : ℕ) : Type 0 where
    low : lo ≤ at
    high : at ≤ lo + n
    below : (i : ℕ) → lo ≤ i → suc i ≡ at → number_in tb field i < v
    above : at < lo + n → v ≤ number_in tb field at

  none_there : (lo n : ℕ) → n ≡ 0 → Sides lo n lo
  none_there lo n e = record { low = omega arith; high = omega arith; below = λ i l k. absurd (omega arith); above = λ l. absurd (omega arith) }

  -- either half keeps that
  behind : (lo n half at : ℕ) → half < n → number_in tb field (lo + half) < v → Sides (lo + half + 1) (n - half - 1) at → Sides lo n at
  behind lo n half at h b s =
      record {
        low = omega (arith, s.low);
        high = omega (arith, s.high);
        below = λ i l e. by_test (eqb i (lo + half)) (λ t. rw (eqb-true i (lo + half) t) b) (λ t. s.below i (omega (arith, eqb-false i (lo + half) t, s.low)) e);
        above = λ l. s.above (omega arith);
      }

  before : (lo n half at : ℕ) → half < n → v ≤ number_in tb field (lo + half) → Sides lo half at → Sides lo n at
  before lo n half at h b s =
      record {
        low = s.low;
        high = omega (arith, s.high);
        below = s.below;
        above = λ l. by_test (eqb at (lo + half)) (λ t. rw (eqb-true at (lo + half) t) b) (λ t. s.above (omega (arith, eqb-false at (lo + half) t, s.high)));
      }

  sides : (turns lo n : ℕ) → n ≤ turns → Sides lo n (searched turns tb field v lo n)
  unfolding searched
  sides zero lo n h = none_there lo n (omega arith)
  sides (suc turns) lo n h =
      let at = lo + n / 2 in
      pick_told (Sides lo n) (eqb n 0) lo _ (λ t. none_there lo n (eqb-true n 0 t))
      (λ t.
      pick_told (Sides lo n) (ltb (number_in tb field at) v) _ _
      (λ b. behind lo n (n / 2) (searched turns tb field v (at + 1) (n - n / 2 - 1)) (some n t) (ltb-true _ _ b) (sides turns (at + 1) (n - n / 2 - 1) (omega arith)))
      (λ b. before lo n (n / 2) (searched turns tb field v lo (n / 2)) (some n t) (ltb-false _ _ b) (sides turns lo (n / 2) (omega arith))))
    where
      some : (k : ℕ) → eqb k 0 ≡ false → k / 2 < k
      some k t = omega (arith, eqb-false k 0 t)

  -- the end of them all is such a place too, where the last is below v
  halved_sides : (n : ℕ) → Sides 0 n (halved tb field v n)
  unfolding halved
  halved_sides n =
      pick_told (Sides 0 n) (eqb n 0) 0 _ (λ t. none_there 0 n (eqb-true n 0 t))
      (λ t.
      pick_told (Sides 0 n) (ltb (number_in tb field (n - 1)) v) n _
      (λ b. record { low = omega arith; high = omega arith; below = λ i l e. at_last i (ltb-true _ _ b) e; above = λ l. absurd (omega arith) })
      (λ b. sides n 0 n (omega arith)))
    where
      at_last : (i : ℕ) → number_in tb field (n - 1) < v → suc i ≡ n → number_in tb field i < v
      at_last i b e =
          let p : n - 1 ≡ i = omega arith in
          rw (← p) b

  pub halved_low : (n : ℕ) → halved tb field v n ≤ n
  halved_low n = omega (arith, (halved_sides n).high)

  -- the place before it is below v, and its own is not, of whatever bytes
  pub halved_behind : (n i : ℕ) → suc i ≡ halved tb field v n → number_in tb field i < v
  halved_behind n i e = (halved_sides n).below i (omega arith) e

  pub halved_before : (n : ℕ) → halved tb field v n < n → v ≤ number_in tb field (halved tb field v n)
  halved_before n l = (halved_sides n).above (omega arith)

-- on numbers that never fall it is the number of places below v
pub halved_is : (tb : List ℕ) (field v n k : ℕ) → k ≤ n → ((i : ℕ) → i < k → number_in tb field i < v) → ((i : ℕ) → k ≤ i → i < n → v ≤ number_in tb field i) → halved tb field v n ≡ k
halved_is tb field v n k h below above =
    let at = halved tb field v n in
    by_test (ltb at k)
    (λ t.
    let l : at < k = ltb-true at k t in
    absurd (omega (arith, below at l, halved_before tb field v n (omega arith))))
    (λ t.
    let l : k ≤ at = ltb-false at k t in
    by_test (eqb at k) (λ e. eqb-true at k e)
    (λ e.
    let m : k < at = omega (arith, eqb-false at k e) in
    absurd (omega (arith, above (at - 1) (omega arith) (omega (arith, halved_low tb field v n)), halved_behind tb field v n (at - 1) (omega arith)))))
