-- What a block is, one law for each way that reading it can end.
use mathlib.Core.Bool.{Bool, true, false, ◌&&◌}
use mathlib.Core.List.{List, []}
use mathlib.Core.Path.{◌≡◌, refl, sym, ap, ◌∙◌}
use Prim.Native.Nat.{ℕ, zero, suc, ◌+◌, ◌*◌, ◌/◌, ◌<◌, ◌≤◌}
use native.Mathlib.Omega.{arith}
use borrow.Author.Tests.{le-ltb, lt-ltb}
use lib.ListN.{length, take, drop, get_or}
use lib.Seq.{drop-drop}
use Rattle.std.proofs.Math.Nat.{mul-suc, mul-zero}
use Rattle.std.specs.Simd.{first_chunks}
use Rattle.lists.specs.Pick.{pick}
use Rattle.lists.specs.Words.{word_at}
use Rattle.tape.specs.Numbers.{block_bytes}
use Rattle.tape.specs.Reading.{block_at, check_right, class_at, class_at_under, class_by, class_by_under, class_of, class_of_under, index_right, kind_of, kind_right, length_right, or_damaged, padding_right, used_of}
use Rattle.tape.specs.declared.BlockFault.{BlockFault}
use Rattle.tape.specs.declared.BlockFault.TheVariants as fault
use Rattle.tape.proofs.Accepted.{clash}
use Rattle.block.specs.Halves.{body_right, wrong_by, wrong_in, head_right}
use Rattle.tape.specs.declared.Block.{Block}
use Rattle.std.specs.Prelude.{Result, Ok, Err}

true_false : true ≡ false → ⊥
true_false e = clash (cc e)

-- three tests, then two, told by the first that fails
by_three : (p q r : Bool) (x : Result Block BlockFault) (g : BlockFault) → (p && (q && r)) ≡ false
    → Err (pick p (pick q (pick r g fault.Index) fault.Length) fault.Kind) ≡ or_damaged fault.Kind p (or_damaged fault.Length q (or_damaged fault.Index r x))
by_three false q r x g h = refl
by_three true false r x g h = refl
by_three true true false x g h = refl
by_three true true true x g h = absurd (true_false h)

by_two : (p q : Bool) (x : Result Block BlockFault) → (p && q) ≡ false → Err (pick p fault.Check fault.Padding) ≡ or_damaged fault.Padding p (or_damaged fault.Check q x)
by_two false q x h = refl
by_two true false x h = refl
by_two true true x h = absurd (true_false h)

-- past all that are right
past_three : (p q r : Bool) (x : Result Block BlockFault) → (p && (q && r)) ≡ true → or_damaged fault.Kind p (or_damaged fault.Length q (or_damaged fault.Index r x)) ≡ x
past_three true true true x h = refl
past_three false q r x h = absurd (true_false (sym h))
past_three true false r x h = absurd (true_false (sym h))
past_three true true false x h = absurd (true_false (sym h))

past_words : (p q r : Bool) (g : BlockFault) → (p && (q && r)) ≡ true → pick p (pick q (pick r g fault.Index) fault.Length) fault.Kind ≡ g
past_words true true true g h = refl
past_words false q r g h = absurd (true_false (sym h))
past_words true false r g h = absurd (true_false (sym h))
past_words true true false g h = absurd (true_false (sym h))

past_two : (p q : Bool) (x : Result Block BlockFault) → (p && q) ≡ true → or_damaged fault.Padding p (or_damaged fault.Check q x) ≡ x
past_two true true x h = refl
past_two false q x h = absurd (true_false (sym h))
past_two true false x h = absurd (true_false (sym h))

-- the three words go by the names under which a caller has read them
module _ (b : List ℕ) (k n i : ℕ) (p : k ≡ word_at b 0) (q : n ≡ word_at b 2) (r : i ≡ word_at b 4) where
  by_words : class_by b k n i ≡ class_of b
  unfolding class_of_under
  by_words = cc

  words_wrong : wrong_by b k n i ≡ wrong_in b
  unfolding wrong_in
  words_wrong = cc

  -- the fault, one law for each that can be the first
  pub fault_kind : kind_right k ≡ false → fault.Kind ≡ wrong_in b
  unfolding wrong_by
  fault_kind a = rw (← words_wrong, a)

  pub fault_length : kind_right k ≡ true → length_right k n ≡ false → fault.Length ≡ wrong_in b
  unfolding wrong_by
  fault_length a c = rw (← words_wrong, a, c)

  pub fault_index : kind_right k ≡ true → length_right k n ≡ true → index_right k n i ≡ false → fault.Index ≡ wrong_in b
  unfolding wrong_by
  fault_index a c d = rw (← words_wrong, a, c, d)

  pub fault_padding : {x : ℕ} → kind_right k ≡ true → length_right k n ≡ true → index_right k n i ≡ true → x ≡ used_of k n i → padding_right b x ≡ false → fault.Padding ≡ wrong_in b
  unfolding wrong_by
  fault_padding a c d u e = rw (← words_wrong, a, c, d, ← u, e)

  pub fault_check : {x : ℕ} → kind_right k ≡ true → length_right k n ≡ true → index_right k n i ≡ true → x ≡ used_of k n i → padding_right b x ≡ true → fault.Check ≡ wrong_in b
  unfolding wrong_by
  fault_check a c d u e = rw (← words_wrong, a, c, d, ← u, e)

  pub class_head : {f : BlockFault} → head_right k n i ≡ false → f ≡ wrong_in b → Err f ≡ class_of b
  unfolding class_by_under head_right wrong_by
  class_head h e = ap Err (e ∙ sym words_wrong) ∙ by_three (kind_right k) (length_right k n) (index_right k n i) _ _ h ∙ by_words

  -- a right head leaves padding and check
  by_body : head_right k n i ≡ true → or_damaged fault.Padding (padding_right b (used_of k n i)) (or_damaged fault.Check (check_right b) (Ok (kind_of k n i))) ≡ class_of b
  unfolding class_by_under head_right
  by_body h = sym (past_three (kind_right k) (length_right k n) (index_right k n i) _ h) ∙ by_words

  body_wrong : head_right k n i ≡ true → wrong_by b k n i ≡ pick (padding_right b (used_of k n i)) fault.Check fault.Padding
  unfolding wrong_by head_right
  body_wrong h = past_words (kind_right k) (length_right k n) (index_right k n i) _ h

  pub class_body : {x : ℕ} {f : BlockFault} → head_right k n i ≡ true → x ≡ used_of k n i → body_right b x ≡ false → f ≡ wrong_in b → Err f ≡ class_of b
  unfolding body_right
  class_body h u e d =
      ap Err (d ∙ sym words_wrong ∙ body_wrong h) ∙ by_two (padding_right b (used_of k n i)) (check_right b) (Ok (kind_of k n i)) (rw u at e) ∙ by_body h

  pub class_right : {x : ℕ} {t : Block} → head_right k n i ≡ true → x ≡ used_of k n i → body_right b x ≡ true → t ≡ kind_of k n i → Ok t ≡ class_of b
  unfolding body_right
  class_right h u e o = ap Ok o ∙ sym (past_two (padding_right b (used_of k n i)) (check_right b) _ (rw u at e)) ∙ by_body h

-- the k-th of the whole chunks of a list is the part that lies there
chunk_at : (n k c : ℕ) (s d : List ℕ) → k < c → get_or (first_chunks n c s) k d ≡ take n (drop (n * k) s)
chunk_at n k zero s d h = absurd (omega arith)
chunk_at n zero (suc c) s d h = rw (mul-zero n)
chunk_at n (suc k) (suc c) s d h =
    let e : n * suc k ≡ n + n * k = omega (arith, mul-suc n k) in
    chunk_at n k c (drop n s) d (omega arith) ∙ ap (take n) (rw e (drop-drop (n * k) n s))

-- block k, where the blocks are the slice's whole chunks
module _ (s : List ℕ) (k : ℕ) (blocks : List (List ℕ)) (many : length blocks ≡ length s / block_bytes) where
  pub class_outside : length blocks ≤ k → Err fault.Index ≡ class_at s k
  unfolding class_at_under
  class_outside h = simp (le-ltb k (length s / block_bytes) (rw many at h))

  pub class_inside : {r : Result Block BlockFault} → blocks ≡ first_chunks block_bytes (length s / block_bytes) s → k < length blocks → r ≡ class_of (get_or blocks k []) → r ≡ class_at s k
  unfolding class_at_under
  class_inside f h e =
      let within : k < length s / block_bytes = rw many at h in
      let here : get_or blocks k [] ≡ block_at s k = rw f (chunk_at block_bytes k (length s / block_bytes) s [] within) in
      simp (lt-ltb k (length s / block_bytes) within) (rw here at e)
