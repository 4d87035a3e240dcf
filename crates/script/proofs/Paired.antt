-- Laws of the bytes that pairs of digits give.
use mathlib.Core.Path.{◌≡◌, refl, ap, ◌∙◌}
use mathlib.Core.List.{List, [], ◌∷◌}
use Prim.Native.Nat.{ℕ, zero, suc, ◌+◌, ◌*◌, ◌/◌, ◌%◌, ◌≤◌, ◌<◌}
use native.Mathlib.Nat.{zero-add}
use native.Mathlib.Numerals.{add-one}
use native.Mathlib.Omega.{arith}
use borrow.Author.Tests.{eq-eqb, ne_eqb, lt-ltb, le-ltb}
use lib.ListN.{length, take, drop, get_or, set, length-drop}
use lib.Seq.{drop-cons, drop-length, length-take-le, sets, take_all, take-suc}
use Rattle.script.specs.declared.Fault.TheVariants as fault
use Rattle.std.specs.Prelude.{Option, Some, None, Ok, Err}
use Rattle.script.specs.Numbers.{digit_of}
use Rattle.script.specs.Fills.{hex_answer, hex_filled, paired, pairs}
use Rattle.lists.proofs.Stores.{sets_at}

clash : {A : Type 0} → ◌≡◌ {A = ℕ} 0 1 → A
clash e = absurd (omega arith)

-- one more byte of a run
store_more : (l d : List ℕ) (i : ℕ) → i < length d → set (sets l 0 (take i d)) i (get_or d i 0) ≡ sets l 0 (take (i + 1) d)
store_more l d i h = rw (add-one i, take-suc d i 0 h) (sets_at (take i d) (get_or d i 0 ∷ []) l 0 i (rw (zero-add, length-take-le i d (omega arith))))

-- two digits as a byte
module _ (r s : Option ℕ) where
  pub pair_high : r ≡ None → None ≡ paired r s
  unfolding paired
  pair_high e = rw e

  module _ (a : ℕ) (p : r ≡ Some a) where
    pub pair_low : s ≡ None → None ≡ paired r s
    unfolding paired
    pair_low e = rw (p, e)

    pub pair_is : (b : ℕ) → s ≡ Some b → Some (16 * a + b) ≡ paired r s
    unfolding paired
    pair_is b e = rw (p, e)

-- what stands at i, and behind it, where the list from i on is known
record Next (l : List ℕ) (i x : ℕ) (r : List ℕ) : Type 0 where
  there : i < length l
  is : get_or l i 0 ≡ x
  rest : drop (suc i) l ≡ r

next : (l : List ℕ) (i x : ℕ) (r : List ℕ) → drop i l ≡ x ∷ r → Next l i x r
next [] zero x r e = clash (cc)
next [] (suc i) x r e = clash (cc)
next (a ∷ l) zero x r e = record { there = omega arith; is = cc; rest = cc }
next (a ∷ l) (suc i) x r e =
    let n = next l i x r e in
    record { there = omega (arith, n.there); is = n.is; rest = n.rest }

none : (l : List ℕ) (i : ℕ) → drop i l ≡ [] → length l ≤ i
none l i e = omega (arith, length-drop i l, ap length e)

-- one pair of a text
module _ (t : List ℕ) (i : ℕ) (h : 2 * i + 1 < length t) where
  two : drop (2 * i) t ≡ get_or t (2 * i) 0 ∷ (get_or t (2 * i + 1) 0 ∷ drop (2 * (i + 1)) t)
  two =
      let e : 2 * (i + 1) ≡ suc (2 * i + 1) = omega arith in
      drop-cons t (2 * i) 0 (omega arith) ∙ ap (λ (l : List ℕ). get_or t (2 * i) 0 ∷ l) (rw (← add-one (2 * i), e) (drop-cons t (2 * i + 1) 0 h))

  module _ (o : Option ℕ) (p : o ≡ paired (digit_of (get_or t (2 * i) 0)) (digit_of (get_or t (2 * i + 1) 0))) where
    pair_more : (x : ℕ) → o ≡ Some x → pairs (drop (2 * i) t) ≡ x ∷ pairs (drop (2 * (i + 1)) t)
    unfolding pairs
    pair_more x e = rw (two, ← p, e)

    pair_none : o ≡ None → pairs (drop (2 * i) t) ≡ []
    unfolding pairs
    pair_none e = rw (two, ← p, e)

-- so far i pairs were read, and they stand at the front of the slice
pub record Read (t b m : List ℕ) (i : ℕ) : Type 0 where
  pub ahead : drop i (pairs t) ≡ pairs (drop (2 * i) t)
  pub low : i ≤ length (pairs t)
  pub stored : m ≡ sets b 0 (take i (pairs t))

pub read_none : (t b : List ℕ) → Read t b b 0
read_none t b = record { ahead = refl; low = omega arith; stored = refl }

module _ (t b m : List ℕ) (i : ℕ) (w : Read t b m i) where
  pub read_more : (o : Option ℕ) (x : ℕ) → 2 * i + 1 < length t → o ≡ paired (digit_of (get_or t (2 * i) 0)) (digit_of (get_or t (2 * i + 1) 0)) → o ≡ Some x → Read t b (set m i x) (i + 1)
  read_more o x h p q =
      let n = next (pairs t) i _ _ (w.ahead ∙ pair_more t i h o p x q) in
      record {
        ahead = ap (λ (k : ℕ). drop k (pairs t)) (add-one i) ∙ n.rest;
        low = omega (arith, n.there);
        stored = rw (w.stored, ← n.is) (store_more b (pairs t) i n.there);
      }

  stop : pairs (drop (2 * i) t) ≡ [] → length (pairs t) ≡ i
  stop e = omega (arith, w.low, none (pairs t) i (w.ahead ∙ e))

  whole : length (pairs t) ≡ i → m ≡ sets b 0 (pairs t)
  whole e = w.stored ∙ ap (sets b 0) (take_all i (pairs t) (omega arith))

  module _ (odd : length t % 2 ≡ 1 → ⊥) (room : length t / 2 ≤ length b) where
    filled_is : length (pairs t) ≡ i → m ≡ hex_filled t b
    unfolding hex_filled
    filled_is e = rw (ne_eqb (length t % 2) 1 odd, le-ltb (length b) (length t / 2) room) (whole e)

    wrong_is : length (pairs t) ≡ i → i < length t / 2 → Err fault.HexWrong ≡ hex_answer t (length b)
    unfolding hex_answer
    wrong_is e h = rw (ne_eqb (length t % 2) 1 odd, le-ltb (length b) (length t / 2) room, ne_eqb (length (pairs t)) (length t / 2) (λ (z : length (pairs t) ≡ length t / 2). omega arith))

    all_is : length (pairs t) ≡ length t / 2 → Ok (length t / 2) ≡ hex_answer t (length b)
    unfolding hex_answer
    all_is e = rw (ne_eqb (length t % 2) 1 odd, le-ltb (length b) (length t / 2) room, eq-eqb (length (pairs t)) (length t / 2) e)

    pub read_none_here : (o : Option ℕ) → i < length t / 2 → o ≡ paired (digit_of (get_or t (2 * i) 0)) (digit_of (get_or t (2 * i + 1) 0)) → o ≡ None → (Err fault.HexWrong ≡ hex_answer t (length b)) × (m ≡ hex_filled t b)
    read_none_here o h p q =
        let e = stop (pair_none t i (omega arith) o p q) in
        (wrong_is e h, filled_is e)

    at_end : i ≡ length t / 2 → pairs (drop (2 * i) t) ≡ []
    unfolding pairs
    at_end e =
        let f : 2 * i ≡ length t = even (length t) i odd e in
        rw (f, drop-length t)
      where
        even : (n i : ℕ) → (n % 2 ≡ 1 → ⊥) → i ≡ n / 2 → 2 * i ≡ n
        even n i o e =
            let z : n % 2 ≡ 0 = by (n % 2) (omega arith) o in
            omega arith
          where
            by : (r : ℕ) → r < 2 → (r ≡ 1 → ⊥) → r ≡ 0
            by zero h o = refl
            by (suc zero) h o = absurd (o refl)
            by (suc (suc r)) h o = absurd (omega arith)

    pub read_all : i ≤ length t / 2 → length t / 2 ≤ i → (Ok (length t / 2) ≡ hex_answer t (length b)) × (m ≡ hex_filled t b)
    read_all h k =
        let f : i ≡ length t / 2 = omega arith in
        let e = stop (at_end f) in
        (all_is (e ∙ f), filled_is e)

module _ (t b : List ℕ) where
  pub read_odd : length t % 2 ≡ 1 → (Err fault.HexWrong ≡ hex_answer t (length b)) × (b ≡ hex_filled t b)
  unfolding hex_answer hex_filled
  read_odd e = (rw (eq-eqb (length t % 2) 1 e), rw (eq-eqb (length t % 2) 1 e))

  pub read_full : (length t % 2 ≡ 1 → ⊥) → length b < length t / 2 → (Err fault.BeyondBuffers ≡ hex_answer t (length b)) × (b ≡ hex_filled t b)
  unfolding hex_answer hex_filled
  read_full o h = (rw (ne_eqb (length t % 2) 1 o, lt-ltb (length b) (length t / 2) h), rw (ne_eqb (length t % 2) 1 o, lt-ltb (length b) (length t / 2) h))
