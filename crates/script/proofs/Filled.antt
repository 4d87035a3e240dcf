-- Laws of the bytes that are put into a lent slice.
use mathlib.Core.Path.{◌≡◌, refl, sym, ap, ◌∙◌}
use mathlib.Core.Bool.{true, false, ◌&&◌}
use mathlib.Core.List.{List, [], ◌∷◌, ◌++◌, append-nil}
use Prim.Native.Nat.{ℕ, zero, suc, ◌+◌, ◌-◌, ◌*◌, ◌/◌, ◌%◌, ◌≤◌, ◌<◌, min}
use native.Mathlib.Nat.{zero-add, zero-min, min-zero, suc-min-suc}
use native.Mathlib.Numerals.{add-one}
use native.Mathlib.Omega.{arith}
use borrow.Author.Tests.{le-leb, lt-leb}
use borrow.Rule.Slice.PartMut.{put_mid}
use lib.Dec.{leb}
use lib.ListN.{take-append-drop, length, take, drop, set, replicate, length-append, length-take, length-drop, length-replicate}
use lib.Seq.{sets-eq, drop-drop, drop-length, length-take-le, length-sets, sets, take_all}
use Rattle.lists.proofs.Stores.{drop_sets, filled, put_sets, sets_at, sets_more, sets_whole}
use Rattle.script.specs.Fills.{appended, copied, generated, made, wiped}

take_min : (n : ℕ) (l : List ℕ) → take (min n (length l)) l ≡ take n l
take_min zero l = rw (zero-min (length l))
take_min (suc n) [] = rw (min-zero (suc n))
take_min (suc n) (x ∷ l) = rw (suc-min-suc n (length l)) (ap (λ (t : List ℕ). x ∷ t) (take_min n l))

-- what is stored at the front, and the rest behind it
front : (b v : List ℕ) → length v ≤ length b → sets b 0 v ≡ v ++ drop (length v) b
front b v h = sets-eq v b 0 (rw zero-add h) ∙ rw (zero-add (length v))

-- all that there is room for is copied
pub copy_is : (b d g : List ℕ) (n : ℕ) → n ≡ min (length b) (length d) → g ≡ take n d → g ++ drop n b ≡ copied b d
copy_is b d g n e f =
    let k : length g ≡ n = ap length f ∙ length-take-le n d (omega (arith, e)) in
    let x : take n d ≡ take (length b) d = rw (e, take_min (length b) d) in
    ap (λ (m : ℕ). g ++ drop m b) (sym k) ∙ sym (front b g (omega (arith, e))) ∙ ap (sets b 0) (f ∙ x)

-- a list stored over itself
sets_self : (l : List ℕ) (k : ℕ) → k ≤ length l → sets l k (drop k l) ≡ l
sets_self l k h =
    let e : k + length (drop k l) ≡ length l = omega (arith, length-drop k l) in
    sets-eq (drop k l) l k (omega arith) ∙ rw (take-append-drop k l, e, drop-length l) (append-nil l)

-- a run stored into the rest of a list, and the rest stored back
sets_rest : (l v : List ℕ) (n : ℕ) → n + length v ≤ length l → sets l n (sets (drop n l) 0 v) ≡ sets l n v
sets_rest l v n h =
    let k : length v ≤ length (drop n l) = omega (arith, length-drop n l) in
    let x : sets (drop n l) 0 v ≡ v ++ drop (n + length v) l = sets-eq v (drop n l) 0 (rw zero-add k) ∙ rw (zero-add (length v), drop-drop (length v) n l) in
    let y : drop (n + length v) (sets l n v) ≡ drop (n + length v) l = drop_sets v l n (n + length v) (omega arith) in
    rw (x, ← sets_more v (drop (n + length v) l) l n, ← y) (sets_self (sets l n v) (n + length v) (rw (length-sets l n v) h))

-- d copied into the part of a line from n on
module _ (l d g : List ℕ) (n : ℕ) (h : n ≤ length l) where
  pub copied_part : g ≡ copied (take (length l - n) (drop n l)) d → put_mid n (length l - n) l g ≡ sets l n (take (length l - n) d)
  copied_part e =
      let m : length (drop n l) ≡ length l - n = length-drop n l in
      let q : take (length l - n) (drop n l) ≡ drop n l = take_all (length l - n) (drop n l) (omega arith) in
      let f : g ≡ sets (drop n l) 0 (take (length l - n) d) = e ∙ rw (q, m) in
      let k : length g ≡ length l - n = ap length f ∙ length-sets (drop n l) 0 (take (length l - n) d) ∙ m in
      put_sets n (length l - n) l g k (omega arith)
      ∙ ap (sets l n) f
      ∙ sets_rest l (take (length l - n) d) n (omega (arith, length-take (length l - n) d))

-- what `append` leaves
module _ (l d : List ℕ) (n : ℕ) where
  pub append_left : length l < n + length d → l ≡ appended l n d
  unfolding appended
  append_left h = rw (lt-leb (n + length d) (length l) h)

  pub append_put : (g : List ℕ) (e : ℕ) → e ≡ n + length d → e ≤ length l → g ≡ d → put_mid n (e - n) l g ≡ appended l n d
  unfolding appended
  append_put g e p h q =
      let k : length g ≡ e - n = omega (arith, ap length q) in
      rw (le-leb (n + length d) (length l) (omega arith)) (put_sets n (e - n) l g k (omega arith) ∙ ap (sets l n) q)

-- what `wipe` leaves
module _ (b : List ℕ) (from to : ℕ) where
  pub wipe_none : (leb from to && leb to (length b)) ≡ false → b ≡ wiped b from to
  unfolding wiped
  wipe_none e = rw e

  pub wipe_zeros : (g : List ℕ) → (leb from to && leb to (length b)) ≡ true → g ≡ replicate (length (take (to - from) (drop from b))) 0 → put_mid from (to - from) b g ≡ wiped b from to
  unfolding wiped
  wipe_zeros g h e =
      let p : (from ≤ to) × (to ≤ length b) = both h in
      rw h (filled (λ m. replicate m 0) (λ m. length-replicate m 0) b g from to p.0 p.1 e)
    where
      both : (leb from to && leb to (length b)) ≡ true → (from ≤ to) × (to ≤ length b)
      both h = grind arith

-- the bytes of a seed
pub length_generated : (seed n : ℕ) → length (generated seed n) ≡ n
unfolding generated
length_generated seed zero = refl
length_generated seed (suc n) = omega (arith, length-append (generated seed n) (made seed n ∷ []), length_generated seed n)

same_byte : (a b k : ℕ) → b ≡ a + 256 * k → a % 256 ≡ b % 256
same_byte a b k e = omega arith

made_is : (seed i : ℕ) → (seed % 256 + i % 256 * 7 + i / 256 % 256 * 13) % 256 ≡ made seed i
made_is seed i = same_byte (seed % 256 + i % 256 * 7 + i / 256 % 256 * 13) (seed + i * 7 + i / 256 * 13) (seed / 256 + i / 256 * 7 + i / 256 / 256 * 13) (omega arith)

pub generate_more : (b m : List ℕ) (seed i : ℕ) → m ≡ sets b 0 (generated seed i) → set m i ((seed % 256 + i % 256 * 7 + i / 256 % 256 * 13) % 256) ≡ sets b 0 (generated seed (i + 1))
unfolding generated
generate_more b m seed i e = rw (add-one i, made_is seed i, e) (sets_at (generated seed i) (made seed i ∷ []) b 0 i (rw (zero-add, length_generated seed i)))

pub generate_end : (b : List ℕ) (seed i : ℕ) → i ≡ length b → sets b 0 (generated seed i) ≡ generated seed (length b)
generate_end b seed i e = sets_whole (generated seed i) b (length_generated seed i ∙ e) ∙ ap (generated seed) e
