-- Laws of CRC-32: its bits are linear, so eight of them may be looked up.
use mathlib.Core.Path.{◌≡◌, refl, sym, ap, ap₂, ◌∙◌}
use mathlib.Core.List.{List, [], ◌∷◌, ◌++◌, append-nil, append_assoc}
use Prim.Native.Nat.{ℕ, zero, suc, ◌+◌, ◌*◌, ◌/◌, ◌%◌, ◌^◌, ◌<◌}
use native.Mathlib.Numerals.{add-one}
use native.Mathlib.Omega.{arith}
use borrow.Author.Tests.{eq-eqb, eqb-false, eqb-true, ne_eqb}
use lib.Arith.{bin_ind}
use lib.Bits.{bit_xor, differ, shifted_even, shifted_half, xor_comm, xor_mod, xor_self, xor_shifted, xor_shr, xor_step, xor_zero_r}
use lib.Dec.{eqb}
use lib.ListN.{length, take, get_or, set, length-append, get_or-append}
use lib.Seq.{get_or_at, take_all, take-suc-set}
use Rattle.lists.proofs.Cases.{by_test}
use Rattle.lists.specs.Words.{Bytes}
use Rattle.script.specs.Sums.{crc32, crc_by, crc_table, step, steps, summed, tabled, table_to}

-- exclusive or is associative, as its digits are
module _ (a b : ℕ) where
  half : bit_xor a b / 2 ≡ bit_xor (a / 2) (b / 2)
  half = xor_shr a b 1

  odd : bit_xor a b % 2 ≡ bit_xor (a % 2) (b % 2)
  odd = xor_mod a b 1

differ_is : (r s : ℕ) → r < 2 → s < 2 → bit_xor r s ≡ differ r s
differ_is zero s h k = refl
differ_is (suc zero) zero h k = refl
differ_is (suc zero) (suc zero) h k = refl
differ_is (suc zero) (suc (suc s)) h k = absurd (omega arith)
differ_is (suc (suc r)) s h k = absurd (omega arith)

differ_assoc : (r s t : ℕ) → r < 2 → s < 2 → t < 2 → differ (differ r s) t ≡ differ r (differ s t)
differ_assoc zero s t h k l = refl
differ_assoc (suc zero) zero t h k l = refl
differ_assoc (suc zero) (suc zero) zero h k l = refl
differ_assoc (suc zero) (suc zero) (suc zero) h k l = refl
differ_assoc (suc zero) (suc zero) (suc (suc t)) h k l = absurd (omega arith)
differ_assoc (suc zero) (suc (suc s)) t h k l = absurd (omega arith)
differ_assoc (suc (suc r)) s t h k l = absurd (omega arith)

low : (a : ℕ) → a % 2 < 2
low a = omega arith

digit : (a b : ℕ) → bit_xor a b % 2 ≡ differ (a % 2) (b % 2)
digit a b = odd a b ∙ differ_is (a % 2) (b % 2) (low a) (low b)

pub xor_assoc : (a b c : ℕ) → bit_xor (bit_xor a b) c ≡ bit_xor a (bit_xor b c)
xor_assoc a =
    bin_ind (λ (n : ℕ). (b c : ℕ) → bit_xor (bit_xor n b) c ≡ bit_xor n (bit_xor b c)) (λ b c. refl)
    (λ n ih b c. xor_step (bit_xor n b) c
    ∙ ap₂ (λ (x y : ℕ). bit_xor x (c / 2) * 2 + differ y (c % 2)) (half n b) (digit n b)
    ∙ ap₂ (λ (x y : ℕ). x * 2 + y) (ih (b / 2) (c / 2)) (differ_assoc (n % 2) (b % 2) (c % 2) (low n) (low b) (low c))
    ∙ sym (ap₂ (λ (x y : ℕ). bit_xor (n / 2) x * 2 + differ (n % 2) y) (half b c) (digit b c))
    ∙ sym (xor_step n (bit_xor b c))) a

module _ (a b q : ℕ) where
  xor_second : bit_xor (bit_xor a b) q ≡ bit_xor a (bit_xor b q)
  xor_second = xor_assoc a b q

  xor_first : bit_xor (bit_xor a b) q ≡ bit_xor (bit_xor a q) b
  xor_first = xor_assoc a b q ∙ ap (bit_xor a) (xor_comm b q) ∙ sym (xor_assoc a q b)

  xor_both : bit_xor a b ≡ bit_xor (bit_xor a q) (bit_xor b q)
  xor_both =
      sym (xor_assoc a q (bit_xor b q)
      ∙ ap (bit_xor a) (ap (bit_xor q) (xor_comm b q) ∙ sym (xor_assoc q q b) ∙ ap (λ (x : ℕ). bit_xor x b) (xor_self q)))

pub even : (c : ℕ) → (c % 2 ≡ 1 → ⊥) → c % 2 ≡ 0
even c h = by (c % 2) (low c) h
  where
    by : (r : ℕ) → r < 2 → (r ≡ 1 → ⊥) → r ≡ 0
    by zero k h = refl
    by (suc zero) k h = absurd (h refl)
    by (suc (suc r)) k h = absurd (omega arith)

-- one bit
pub step_even : (c : ℕ) → c % 2 ≡ 0 → step c ≡ c / 2
unfolding step
step_even c e = rw (ne_eqb (c % 2) 1 (λ (z : c % 2 ≡ 1). omega arith))

pub step_odd : (c : ℕ) → c % 2 ≡ 1 → step c ≡ bit_xor (c / 2) 3988292384
unfolding step
step_odd c e = rw (eq-eqb (c % 2) 1 e)

step_xor : (a b : ℕ) → step (bit_xor a b) ≡ bit_xor (step a) (step b)
step_xor a b = by (a % 2) (b % 2) refl refl (low a) (low b)
  where
    by : (r s : ℕ) → a % 2 ≡ r → b % 2 ≡ s → r < 2 → s < 2 → step (bit_xor a b) ≡ bit_xor (step a) (step b)
    by zero zero p q h k =
        step_even (bit_xor a b) (digit a b ∙ ap₂ differ p q) ∙ half a b ∙ sym (ap₂ bit_xor (step_even a p) (step_even b q))
    by zero (suc zero) p q h k =
        step_odd (bit_xor a b) (digit a b ∙ ap₂ differ p q) ∙ ap (λ (x : ℕ). bit_xor x 3988292384) (half a b) ∙ xor_second (a / 2) (b / 2) 3988292384 ∙ sym (ap₂ bit_xor (step_even a p) (step_odd b q))
    by (suc zero) zero p q h k =
        step_odd (bit_xor a b) (digit a b ∙ ap₂ differ p q) ∙ ap (λ (x : ℕ). bit_xor x 3988292384) (half a b) ∙ xor_first (a / 2) (b / 2) 3988292384 ∙ sym (ap₂ bit_xor (step_odd a p) (step_even b q))
    by (suc zero) (suc zero) p q h k =
        step_even (bit_xor a b) (digit a b ∙ ap₂ differ p q) ∙ half a b ∙ xor_both (a / 2) (b / 2) 3988292384 ∙ sym (ap₂ bit_xor (step_odd a p) (step_odd b q))
    by (suc (suc r)) s p q h k = absurd (omega arith)
    by zero (suc (suc s)) p q h k = absurd (omega arith)
    by (suc zero) (suc (suc s)) p q h k = absurd (omega arith)

steps_xor : (n a b : ℕ) → steps n (bit_xor a b) ≡ bit_xor (steps n a) (steps n b)
unfolding steps
steps_xor zero a b = refl
steps_xor (suc n) a b = ap (steps n) (step_xor a b) ∙ steps_xor n (step a) (step b)

-- bits that are 0 only move
steps_shifted : (n y : ℕ) → steps n (y * 2 ^ n) ≡ y
unfolding steps
steps_shifted zero y = omega arith
steps_shifted (suc n) y = ap (steps n) (step_even (y * 2 ^ suc n) (shifted_even y n) ∙ shifted_half y n) ∙ steps_shifted n y

-- eight bits: what the low byte makes of itself, and the rest, moved
eight : (x : ℕ) → steps 8 x ≡ bit_xor (steps 8 (x % 256)) (x / 256)
eight x =
    let e : x ≡ x / 256 * 2 ^ 8 + x % 256 = omega arith in
    let f : x ≡ bit_xor (x / 256 * 2 ^ 8) (x % 256) = e ∙ sym (xor_shifted (x / 256) 8 (x % 256) (omega arith)) in
    ap (steps 8) f ∙ steps_xor 8 (x / 256 * 2 ^ 8) (x % 256) ∙ ap (λ (y : ℕ). bit_xor y (steps 8 (x % 256))) (steps_shifted 8 (x / 256)) ∙ xor_comm (x / 256) (steps 8 (x % 256))

less : (k n : ℕ) → k < suc n → (k ≡ n → ⊥) → k < n
less k n h e = omega arith

byte : (x : ℕ) → x % 256 < 256
byte x = omega arith

-- the table
pub length_table : (n : ℕ) → length (table_to n) ≡ n
unfolding table_to
length_table zero = refl
length_table (suc n) = omega (arith, length-append (table_to n) (steps 8 n ∷ []), length_table n)

entry : (n k : ℕ) → k < n → get_or (table_to n) k 0 ≡ steps 8 k
unfolding table_to
entry zero k h = absurd (omega arith)
entry (suc n) k h =
    by_test (eqb k n)
    (λ e. let q : k ≡ n = eqb-true k n e in get_or_at (table_to n) (steps 8 n) [] 0 k (length_table n ∙ sym q) ∙ ap (steps 8) (sym q))
    (λ e. let q : k < n = less k n h (eqb-false k n e) in get_or-append (table_to n) (steps 8 n ∷ []) 0 k (omega (arith, length_table n)) ∙ entry n k q)

look : (c b : ℕ) → b < 256 → bit_xor (get_or crc_table (bit_xor c b % 256) 0) (c / 256) ≡ steps 8 (bit_xor c b)
look c b h =
    let z : b / 256 ≡ 0 = omega arith in
    let high : bit_xor c b / 256 ≡ c / 256 = xor_shr c b 8 ∙ ap (bit_xor (c / 256)) z ∙ xor_zero_r (c / 256) in
    ap₂ bit_xor (entry 256 (bit_xor c b % 256) (byte (bit_xor c b))) (sym high) ∙ sym (eight (bit_xor c b))

tabled_is : (t : List ℕ) → Bytes t → (c : ℕ) → tabled crc_table c t ≡ summed c t
unfolding tabled summed
tabled_is [] h c = refl
tabled_is (b ∷ t) h c = ap (λ (x : ℕ). tabled crc_table x t) (look c b (h 0)) ∙ tabled_is t (λ i. h (suc i)) (steps 8 (bit_xor c b))

-- with the right table the sum is CRC-32
pub right_by : (l t : List ℕ) (r : ℕ) → Bytes t → r ≡ crc_by l t → l ≡ crc_table → r ≡ crc32 t
unfolding crc_by crc32
right_by l t r h e f = e ∙ rw (f, tabled_is t h 4294967295)

-- the walk of `crc_entry`
steps_last : (n c : ℕ) → steps (suc n) c ≡ step (steps n c)
unfolding steps
steps_last zero c = refl
steps_last (suc n) c = steps_last n (step c)

pub steps_none : (i : ℕ) → i ≡ steps 0 i
unfolding steps
steps_none i = refl

pub steps_more : (n i c r : ℕ) → c ≡ steps n i → r ≡ step c → r ≡ steps (n + 1) i
steps_more n i c r h e = e ∙ ap step h ∙ rw (add-one n) (sym (steps_last n i))

pub steps_all : (m n i c : ℕ) → m ≡ n → c ≡ steps m i → c ≡ steps n i
steps_all m n i c e h = h ∙ ap (λ (k : ℕ). steps k i) e

-- the walk of `crc_table`
pub table_more : (l : List ℕ) (i v : ℕ) → i < length l → take i l ≡ table_to i → v ≡ steps 8 i → take (i + 1) (set l i v) ≡ table_to (i + 1)
unfolding table_to
table_more l i v h e f = rw (add-one i, take-suc-set l i v h, e, f)

pub table_end : (l : List ℕ) (i : ℕ) → i ≡ 256 → length l ≡ 256 → take i l ≡ table_to i → l ≡ crc_table
table_end l i e f g = sym (take_all i l (omega arith)) ∙ g ∙ ap table_to e

-- the walk of `crc`: what comes behind the bytes so far goes on from c
abbrev pub Summing : List ℕ → List ℕ → ℕ → Type 0
Summing l t c = (r : List ℕ) → tabled l c r ≡ tabled l 4294967295 (t ++ r)

pub summing_none : (l : List ℕ) → Summing l [] 4294967295
summing_none l r = refl

pub summing_one : (l t : List ℕ) (c x n : ℕ) → Summing l t c → n ≡ bit_xor (get_or l (bit_xor c x % 256) 0) (c / 256) → Summing l (t ++ (x ∷ [])) n
unfolding tabled
summing_one l t c x n h e r = ap (λ (k : ℕ). tabled l k r) e ∙ h (x ∷ r) ∙ ap (tabled l 4294967295) (sym (append_assoc t (x ∷ []) r))

pub summing_all : (l t : List ℕ) (c : ℕ) → Summing l t c → tabled l 4294967295 t ≡ c
unfolding tabled
summing_all l t c h = sym (h [] ∙ ap (tabled l 4294967295) (append-nil t))

pub crc_by_lem : (l t : List ℕ) (c : ℕ) → tabled l 4294967295 t ≡ c → bit_xor c 4294967295 ≡ crc_by l t
unfolding crc_by
crc_by_lem l t c e = rw e
