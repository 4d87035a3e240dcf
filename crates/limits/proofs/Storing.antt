-- Two advances that are alike leave the same reel, and the same memory but for EOT in XST0's low byte.
use mathlib.Core.List.{List, [], ◌∷◌}
use mathlib.Core.Path.{◌≡◌, refl, sym, ◌∙◌}
use Prim.Native.Nat.{ℕ, suc, ◌+◌, ◌-◌, ◌/◌, ◌%◌, ◌≤◌}
use native.Mathlib.Omega.{arith}
use borrow.Author.Tests.{ltb-false, ltb-true}
use lib.Dec.{ltb}
use lib.ListN.{get_or, length, length-set, set}
use lib.Seq.{get_or-set_other, get_or-set_same, length-sets, sets}
use Rattle.lists.proofs.Cases.{by_test}
use Rattle.lists.proofs.Stores.{get_d_above, get_d_below, get_d_within}
use Rattle.signals.specs.Message.{messaged, words_bytes}
use Rattle.commands.specs.declared.plans.Plan.{Plan}
use Rattle.storing.specs.Stored.{laid_on, memory_after, message_on, moved_on, reel_after}
use Rattle.storing.proofs.Lengths.{length_moved}
use Rattle.unit.specs.Touching.{touched_by}
use Rattle.limits.specs.Alike.{ButEotAt, ReadsAlike, SameButEot, as_before, eot_now, same_words}
use Rattle.limits.specs.Raised.{SentInside, eot_byte}

pub same_memory : (a : ℕ) (m : List ℕ) → ButEotAt a m m
same_memory a m = record { long = refl; elsewhere = λ j n. refl; there = as_before refl }

-- a run of bytes stored, one of which is x or x', with `back` behind it
module _ (l : List ℕ) (k : ℕ) (back : List ℕ) (room : suc k + length back ≤ length l) where
  stored : (x j : ℕ) → (j ≡ k → ⊥) → (y : ℕ) → get_or (sets (set l k x) (suc k) back) j 0 ≡ get_or (sets (set l k y) (suc k) back) j 0
  stored x j n y =
      by_test (ltb j (suc k))
      (λ t. get_d_below back (set l k x) (suc k) j (ltb-true j (suc k) t) ∙ get_or-set_other l k j x 0 n
      ∙ sym (get_d_below back (set l k y) (suc k) j (ltb-true j (suc k) t) ∙ get_or-set_other l k j y 0 n))
      (λ t.
      let from : suc k ≤ j = ltb-false j (suc k) t in
      by_test (ltb j (suc k + length back))
      (λ v.
      let in-back : j - suc k + suc (k + length back) ≤ j + length back = omega arith in
      let there : j ≡ suc k + (j - suc k) = omega arith in
      rw there (get_d_within back (set l k x) (suc k) (j - suc k) (omega (arith, ltb-true j (suc k + length back) v)) (rw length-set room)
      ∙ sym (get_d_within back (set l k y) (suc k) (j - suc k) (omega (arith, ltb-true j (suc k + length back) v)) (rw length-set room))))
      (λ v.
      let past : suc k + length back ≤ j = ltb-false j (suc k + length back) v in
      get_d_above back (set l k x) (suc k) j past ∙ get_or-set_other l k j x 0 n
      ∙ sym (get_d_above back (set l k y) (suc k) j past ∙ get_or-set_other l k j y 0 n)))

  itself : (x : ℕ) → get_or (sets (set l k x) (suc k) back) k 0 ≡ x
  itself x = get_d_below back (set l k x) (suc k) k (omega arith) ∙ get_or-set_same l k x 0 (omega arith)

-- the message's bytes
words_alike : (l : List ℕ) (a : ℕ) {ws ws' : List ℕ} → SameButEot ws ws' → a + 14 ≤ length l → ButEotAt (a + 6) (messaged l a ws) (messaged l a ws')
unfolding messaged words_bytes
words_alike l a (same_words {xst0 = w} (as_before e)) room = rw e (same_memory (a + 6) _)
words_alike l a (same_words {header = h} {ten = t} {residual = r} {xst0 = w} {xst0' = w'} {xst1 = x} {xst2 = y} {xst3 = z} (eot_now even e)) room =
    let k : ℕ = suc (suc (suc (suc (suc (suc a))))) in
    let at : a + 6 ≡ k = omega arith in
    let front : List ℕ = sets l a (h % 256 ∷ h / 256 ∷ t % 256 ∷ t / 256 ∷ r % 256 ∷ r / 256 ∷ []) in
    let back : List ℕ = w / 256 ∷ x % 256 ∷ x / 256 ∷ y % 256 ∷ y / 256 ∷ z % 256 ∷ z / 256 ∷ [] in
    let fits : suc k + length back ≤ length front = rw length-sets (omega arith) in
    let high : w' / 256 ≡ w / 256 = omega arith in
    let low : w' % 256 ≡ w % 256 + 1 = omega arith in
    rw (at, high, low)
    (record {
      long = length-sets (set front k (w % 256)) (suc k) back ∙ length-set front k (w % 256)
          ∙ sym (length-sets (set front k (w % 256 + 1)) (suc k) back ∙ length-set front k (w % 256 + 1));
      elsewhere = λ j n. stored front k back fits (w % 256) j n (w % 256 + 1);
      there = rw (itself front k back fits (w % 256), itself front k back fits (w % 256 + 1)) (eot_now (omega arith) refl);
    })

pub reel_alike : {q q' : Plan} → ReadsAlike q q' → (m s : List ℕ) → reel_after q m s ≡ reel_after q' m s
unfolding reel_after
reel_alike a m s = rw a.laid

pub touched_alike : {q q' : Plan} → ReadsAlike q q' → (place : ℕ) → touched_by q place ≡ touched_by q' place
unfolding touched_by
touched_alike a place = rw (a.laid, a.moved, a.state, a.sends)

pub memory_alike : {q q' : Plan} → ReadsAlike q q' → (m s : List ℕ) → SentInside q' m → ButEotAt (eot_byte q') (memory_after q m s) (memory_after q' m s)
unfolding memory_after reel_after message_on
memory_alike {q} {q'} a m s inside =
    let l : List ℕ = moved_on (laid_on s m q'.laid) q'.moved m in
    rw (a.laid, a.moved, a.state, a.sends)
    (by_test q'.sends
    (λ t. rw t (words_alike l q'.unit.characteristics.address a.message (omega (arith, inside t, length_moved (laid_on s m q'.laid) q'.moved m))))
    (λ t. rw t (same_memory (eot_byte q') l)))
