-- A run of pieces, all of one width w: how long it is, and that each part of a piece is a part of the run.
-- The pieces of a record and its data bytes on the reel are both such runs.
use mathlib.Core.Path.{◌≡◌, refl, ◌∙◌}
use mathlib.Core.List.{List, [], ◌∷◌, ◌++◌}
use mathlib.Core.Logic.{⊎_elim}
use Prim.Native.Nat.{ℕ, zero, suc, ◌+◌, ◌*◌, ◌≤◌, ◌<◌}
use native.Mathlib.Nat.{eq-or-lt_of_le, le_of_suc-le-suc, mul-le-mul_left}
use native.Mathlib.Omega.{arith}
use lib.ListN.{length, take, drop, length-append, length-drop}
use lib.Seq.{take-take, take-append-le, drop-append-le, drop-append-add}

-- a part of a list is a part of its front, if it ends there
pub part_of_front : (c r t : ℕ) (l : List ℕ) → r + c ≤ t → take c (drop r (take t l)) ≡ take c (drop r l)
part_of_front c zero t l h = take-take c t l (omega arith)
part_of_front c (suc r) zero l h = absurd (omega arith)
part_of_front c (suc r) (suc t) [] h = refl
part_of_front c (suc r) (suc t) (x ∷ l) h = part_of_front c r t l (omega arith)

part_of_first : (c r : ℕ) (l l' : List ℕ) → r + c ≤ length l → take c (drop r (l ++ l')) ≡ take c (drop r l)
part_of_first c r l l' h = rw (drop-append-le r l l' (omega arith)) (take-append-le c (drop r l) l' (rw length-drop (omega arith)))

drop_behind : (l l' : List ℕ) (a r : ℕ) → length l ≡ a → drop (a + r) (l ++ l') ≡ drop r l'
drop_behind l l' a r e = rw (← e) (drop-append-add l l' r)

-- the first m pieces
unfoldable pub run : (ℕ → List ℕ) → ℕ → List ℕ
run f zero = []
run f (suc m) = run f m ++ f m

module _ (f : ℕ → List ℕ) (w : ℕ) where
  pub length_run : (m : ℕ) → ((j : ℕ) → j < m → length (f j) ≡ w) → length (run f m) ≡ w * m
  unfolding run
  length_run zero e = omega arith
  length_run (suc m) e = rw (length-append, length_run m (λ j h. e j (omega arith)), e m (omega arith)) (omega arith)

  pub part_of_run : (m q r c : ℕ) → ((j : ℕ) → j < m → length (f j) ≡ w) → q < m → r + c ≤ w → take c (drop (w * q + r) (run f m)) ≡ take c (drop r (f q))
  unfolding run
  part_of_run zero q r c e h k = absurd (omega arith)
  part_of_run (suc m) q r c e h k =
      let below : (j : ℕ) → j < m → length (f j) ≡ w = λ j l. e j (omega arith) in
      let n = length_run m below in
      ⊎_elim
      (λ (same : q ≡ m). rw (same, drop_behind (run f m) (f m) (w * m) r n))
      (λ (l : q < m). part_of_first c (w * q + r) (run f m) (f m) (omega (arith, mul-le-mul_left w l)) ∙ part_of_run m q r c below l k)
      (eq-or-lt_of_le (le_of_suc-le-suc h))
