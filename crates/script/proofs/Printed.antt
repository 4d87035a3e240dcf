-- Laws of what is put into a line of output.
use mathlib.Core.Path.{◌≡◌, sym, ap, ◌∙◌}
use mathlib.Core.List.{List, [], ◌∷◌, ◌++◌}
use Prim.Native.Nat.{ℕ, zero, suc, ◌+◌, ◌-◌, ◌≤◌, ◌<◌, min}
use native.Mathlib.Nat.{suc-sub-suc, sub-zero, zero-min}
use native.Mathlib.Omega.{arith}
use borrow.Rule.Slice.PartMut.{put_mid}
use lib.ListN.{length, take, drop, length-append, length-take}
use lib.Seq.{length-sets, sets, take-nil}
use Rattle.lists.proofs.Stores.{sets_at}
use Rattle.script.specs.Fills.{copied}
use Rattle.script.specs.Prints.{Put, put_at}
use Rattle.script.proofs.Filled.{copied_part}

-- behind the slice's end nothing is put
pub put_none : (o t : List ℕ) (at : ℕ) → length o < at → Put o at t o at
put_none o t at h =
    let e : length o - at ≡ 0 = omega arith in
    record { stored = rw e; next = rw (e, zero-min (length t)) (omega arith) }

pub put_some : (o t g : List ℕ) (at r : ℕ) → at ≤ length o → g ≡ copied (take (length o - at) (drop at o)) t → r ≡ min (length (put_mid at (length o - at) o g) - at) (length t) → Put o at t (put_mid at (length o - at) o g) (at + r)
put_some o t g at r h e f =
    let s : put_mid at (length o - at) o g ≡ put_at o at t = copied_part o t g at h e in
    let l : length (put_mid at (length o - at) o g) ≡ length o = ap length s ∙ length-sets o at (take (length o - at) t) in
    record { stored = s; next = ap (λ (n : ℕ). at + n) (f ∙ ap (λ (n : ℕ). min (n - at) (length t)) l) }

-- two texts in a row are one
take_both : (m : ℕ) (a b : List ℕ) → take m (a ++ b) ≡ take m a ++ take (m - length a) b
take_both m [] b = rw (take-nil m, sub-zero m)
take_both zero (x ∷ a) b =
    let e : 0 - suc (length a) ≡ 0 = omega arith in
    rw e
take_both (suc m) (x ∷ a) b = rw (suc-sub-suc m (length a)) (ap (λ (l : List ℕ). x ∷ l) (take_both m a b))

module _ (o a b o' o'' : List ℕ) (at n r : ℕ) where
  pub put_more : Put o at a o' n → Put o' n b o'' r → Put o at (a ++ b) o'' r
  put_more p q =
      let l : length o' ≡ length o = ap length p.stored ∙ length-sets o at (take (length o - at) a) in
      let m : n ≡ at + length (take (length o - at) a) = p.next ∙ ap (λ (k : ℕ). at + k) (sym (length-take (length o - at) a)) in
      let k : length o' - n ≡ length o - at - length a = omega (arith, l, p.next) in
      record {
        stored = q.stored ∙ rw (k, p.stored) (sets_at (take (length o - at) a) (take (length o - at - length a) b) o at n m) ∙ ap (sets o at) (sym (take_both (length o - at) a b));
        next = q.next ∙ omega (arith, k, p.next, length-append a b);
      }
