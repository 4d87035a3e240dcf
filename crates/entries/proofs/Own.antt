-- The state's numbers and their flags: which numbers are those of the unit that they are read as.
use mathlib.Core.Path.{◌≡◌, refl, ap, ◌∙◌}
use mathlib.Core.Bool.{Bool, true, false, ◌&&◌, not, and-eq-true_iff}
use mathlib.Core.List.{List, [], ◌∷◌, ◌++◌}
use Prim.Native.Nat.{ℕ, zero, suc, ◌%◌, ◌<◌}
use native.Mathlib.Omega.{arith}
use borrow.Author.Tests.{ltb-true}
use lib.Dec.{eqb, ltb}
use lib.ListN.{get_or, length}
use Rattle.lists.specs.Fours.{number_limit}
use Rattle.state.specs.declared.Lengths.{Lengths}
use Rattle.state.specs.declared.Unit.{Unit}
use Rattle.entries.specs.Numbers.{bit_of, flags_right, is_set, nth, state_numbers, unit_in}
use Rattle.entries.proofs.Back.{low}

a_flag : (b : Bool) → ltb (bit_of b) 2 ≡ true
a_flag true = refl
a_flag false = refl

-- whatever numbers stand behind the state's
pub flags_of : (u : Unit) (r : List ℕ) → flags_right (state_numbers u ++ r) ≡ true
unfolding flags_right state_numbers
flags_of u r = simp a_flag

-- a list by its elements
abbrev pub elements : (ℕ → ℕ) → ℕ → ℕ → List ℕ
elements g i zero = []
elements g i (suc k) = g i ∷ elements g (suc i) k

shifted : (g : ℕ → ℕ) (i k : ℕ) → elements g (suc i) k ≡ elements (λ j. g (suc j)) i k
shifted g i zero = refl
shifted g i (suc k) = ap (λ (x : List ℕ). g (suc i) ∷ x) (shifted g (suc i) k)

pub all_elements : (n : List ℕ) → elements (λ i. get_or n i 0) 0 (length n) ≡ n
all_elements [] = refl
all_elements (x ∷ n) = ap (λ (y : List ℕ). x ∷ y) (shifted (λ i. get_or (x ∷ n) i 0) 0 (length n) ∙ all_elements n)

-- the tests of the flags, each by itself
pub three : (a b c : Bool) → (a && (b && c)) ≡ true → (a ≡ true) × (b ≡ true) × (c ≡ true)
three a b c h =
    let p = (and-eq-true_iff a (b && c)).0 h in
    let q = (and-eq-true_iff b c).0 p.1 in
    (p.0, q.0, q.1)

abbrev Flag : List ℕ → ℕ → Type 0
Flag n i = ltb (nth n i) 2 ≡ true

record Flags (n : List ℕ) : Type 0 where
  registers : Flag n 4 × Flag n 5 × Flag n 6 × Flag n 7
  panel : Flag n 8 × Flag n 9 × Flag n 10
  attention : Flag n 11 × Flag n 12 × Flag n 13
  characteristics : Flag n 16 × Flag n 17 × Flag n 18

flags_told : (n : List ℕ) → flags_right n ≡ true → Flags n
unfolding flags_right
flags_told n h =
    let f : ℕ → Bool = λ i. ltb (nth n i) 2 in
    let a : Bool = f 4 && (f 5 && (f 6 && f 7)) in
    let b : Bool = f 8 && (f 9 && f 10) in
    let c : Bool = f 11 && (f 12 && f 13) in
    let d : Bool = f 16 && (f 17 && f 18) in
    let p = (and-eq-true_iff (a && b && c) d).0 h in
    let q = (and-eq-true_iff (a && b) c).0 p.0 in
    let r = (and-eq-true_iff a b).0 q.0 in
    let s = (and-eq-true_iff (f 4) (f 5 && (f 6 && f 7))).0 r.0 in
    let t = three (f 5) (f 6) (f 7) s.1 in
    record {
      registers = (s.0, t.0, t.1, t.2);
      panel = three (f 8) (f 9) (f 10) r.1;
      attention = three (f 11) (f 12) (f 13) q.1;
      characteristics = three (f 16) (f 17) (f 18) p.1;
    }

-- a flag is 0 or 1
flag_back : (n : ℕ) → ltb n 2 ≡ true → bit_of (not (eqb n 0)) ≡ n
flag_back zero t = refl
flag_back (suc zero) t = refl
flag_back (suc (suc n)) t = absurd (omega (arith, ltb-true (suc (suc n)) 2 t))

module _ (n : List ℕ) (small : (i : ℕ) → nth n i < number_limit) where
  pub number : (k : ℕ) → nth n k % number_limit ≡ nth n k
  number k = low (nth n k) (small k)

  flag : (k : ℕ) → Flag n k → bit_of (is_set n k) ≡ nth n k
  flag k t = flag_back (nth n k) t

  pub state_own : (l : Lengths) → flags_right n ≡ true → state_numbers (unit_in n l) ≡ elements (nth n) 0 19
  unfolding state_numbers unit_in
  state_own l r =
      let f = flags_told n r in
      let a = f.registers in
      let b = f.panel in
      let c = f.attention in
      let d = f.characteristics in
      λ i. number 0 i ∷ number 1 i ∷ number 2 i ∷ number 3 i ∷ flag 4 a.0 i ∷ flag 5 a.1 i ∷ flag 6 a.2 i ∷ flag 7 a.3 i
      ∷ flag 8 b.0 i ∷ flag 9 b.1 i ∷ flag 10 b.2 i ∷ flag 11 c.0 i ∷ flag 12 c.1 i ∷ flag 13 c.2 i
      ∷ nth n 14 ∷ nth n 15 ∷ flag 16 d.0 i ∷ flag 17 d.1 i ∷ flag 18 d.2 i ∷ []
