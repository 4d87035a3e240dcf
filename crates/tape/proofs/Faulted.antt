-- The reader's fault is the first of the five that is wrong, as facts about the block's bytes; and what a pass says of a block at fault.
use mathlib.Core.Path.{◌≡◌, refl, sym, ap, ◌∙◌}
use mathlib.Core.Bool.{Bool, true, false, ◌&&◌, and-eq-true_iff}
use mathlib.Core.List.{List, [], ◌∷◌}
use Prim.Native.Nat.{ℕ, zero, suc, ◌+◌, ◌-◌, ◌/◌, ◌≤◌, ◌<◌}
use native.Mathlib.Omega.{arith}
use borrow.Author.Tests.{eq-eqb, eqb-false, eqb-true, le-leb, le-ltb, leb-true, lt-ltb, ltb-false, ltb-true, ne_eqb}
use lib.Dec.{eqb, leb, ltb}
use lib.ListN.{length, take, drop, get_or, length-take, get_or-eq_default}
use lib.Seq.{get_or-drop, get_or-take}
use Rattle.lists.specs.Pick.{Always}
use Rattle.lists.specs.Words.{word_at}
use Rattle.lists.proofs.Cases.{by_test, pick_told}
use Rattle.tape.specs.Layout.{check_of, mark_kind, piece_kind}
use Rattle.tape.specs.Letters.{letter_of}
use Rattle.tape.specs.Numbers.{block_bytes, head_bytes, pieces_of, record_limit, summed_bytes}
use Rattle.tape.specs.Pass.{fault_of}
use Rattle.tape.specs.Reading.{block_at, check_right, class_at, class_at_under, class_by_under, class_of, class_of_under, index_right, kind_of, kind_right, length_right, padding_right, used_of, zeros}
use Rattle.tape.specs.Wrong.{CheckGood, FirstWrong, IndexGood, KindGood, LengthGood, PaddingGood, WrongAt, by_itself, check, index, kind, kind_gap, kind_mark, kind_piece, misplaced, not_there, of_blank, of_piece, of_record, of_single, padding, size}
use Rattle.tape.specs.declared.BlockFault.{BlockFault}
use Rattle.tape.specs.declared.BlockFault.TheVariants as fault
use Rattle.tape.specs.declared.Block.{Block}
use Rattle.tape.proofs.Accepted.{clash, third}
use Rattle.std.specs.Prelude.{Result, Ok, Err}

-- a test that is true exactly where the fact holds
record Decides (t : Bool) (P : Type 0) : Type 0 where
  so : t ≡ true → P
  sure : P → t ≡ true

not_so : {t : Bool} {P : Type 0} → Decides t P → t ≡ false → P → ⊥
not_so d e p = clash (cc (d.sure p, e))

not_sure : {t : Bool} {P : Type 0} → Decides t P → (P → ⊥) → t ≡ false
not_sure {t = t} d f = by_test t (λ e. absurd (f (d.so e))) (λ e. e)

-- a list of zeros, place by place; behind its end a list has 0 at every place
zeros_so : (l : List ℕ) (j : ℕ) → zeros l ≡ true → get_or l j 0 ≡ 0
unfolding zeros
zeros_so [] j h = refl
zeros_so (a ∷ r) zero h = eqb-true a 0 ((and-eq-true_iff (eqb a 0) (zeros r)).0 h).0
zeros_so (a ∷ r) (suc j) h = zeros_so r j ((and-eq-true_iff (eqb a 0) (zeros r)).0 h).1

zeros_sure : (l : List ℕ) → ((j : ℕ) → get_or l j 0 ≡ 0) → zeros l ≡ true
unfolding zeros
zeros_sure [] f = refl
zeros_sure (a ∷ r) f = (and-eq-true_iff (eqb a 0) (zeros r)).1 (eq-eqb a 0 (f 0), zeros_sure r (λ j. f (suc j)))

none_behind : (m : ℕ) (l : List ℕ) (j : ℕ) → m ≤ j → get_or (take m l) j 0 ≡ 0
none_behind m l j h = get_or-eq_default (take m l) 0 (rw length-take (omega arith))

padding_at : (b : List ℕ) (m j : ℕ) → ((j : ℕ) → m ≤ j → j < summed_bytes → get_or b j 0 ≡ 0) → get_or (drop m (take summed_bytes b)) j 0 ≡ 0
padding_at b m j f =
    get_or-drop m (take summed_bytes b) j 0
    ∙ by_test (ltb (m + j) summed_bytes)
    (λ t. let l = ltb-true (m + j) summed_bytes t in get_or-take summed_bytes b (m + j) 0 l ∙ f (m + j) (omega arith) l)
    (λ t. none_behind summed_bytes b (m + j) (ltb-false (m + j) summed_bytes t))

padding_off : (b : List ℕ) (m j : ℕ) → m ≤ j → j < summed_bytes → zeros (drop m (take summed_bytes b)) ≡ true → get_or b j 0 ≡ 0
padding_off b m j h l z =
    let e : m + (j - m) ≡ j = omega arith in
    sym (get_or-take summed_bytes b j 0 l)
    ∙ ap (λ (x : ℕ). get_or (take summed_bytes b) x 0) (sym e)
    ∙ sym (get_or-drop m (take summed_bytes b) (j - m) 0)
    ∙ zeros_so (drop m (take summed_bytes b)) (j - m) z

module _ (b : List ℕ) where
  abbrev k : ℕ
  k = word_at b 0

  abbrev n : ℕ
  n = word_at b 2

  abbrev i : ℕ
  i = word_at b 4

  kind_so : kind_right k ≡ true → KindGood b
  kind_so h =
      by_test (eqb k piece_kind)
      (λ t. kind_piece (eqb-true k piece_kind t))
      (λ t. by_test (eqb k mark_kind) (λ m. kind_mark (eqb-true k mark_kind m)) (λ m. kind_gap (third k t m h)))

  kind_sure : KindGood b → kind_right k ≡ true
  kind_sure (kind_piece e) = rw e
  kind_sure (kind_mark e) = rw e
  kind_sure (kind_gap e) = rw e

  kind_tells : Decides (kind_right k) (KindGood b)
  kind_tells = record { so = kind_so; sure = kind_sure }

  length_so : length_right k n ≡ true → LengthGood b
  length_so h =
      by_test (eqb k piece_kind)
      (λ t.
      let h' : (leb 1 n && leb n record_limit) ≡ true = rw t at h in
      let p = (and-eq-true_iff (leb 1 n) (leb n record_limit)).0 h' in
      of_record (eqb-true k piece_kind t) (leb-true 1 n p.0) (leb-true n record_limit p.1))
      (λ t.
      let h' : eqb n 0 ≡ true = rw t at h in
      of_blank (eqb-false k piece_kind t) (eqb-true n 0 h'))

  length_sure : LengthGood b → length_right k n ≡ true
  length_sure (of_record e l m) = rw (eq-eqb k piece_kind e, le-leb 1 n l, le-leb n record_limit m)
  length_sure (of_blank e z) = rw (ne_eqb k piece_kind e, eq-eqb n 0 z)

  length_tells : Decides (length_right k n) (LengthGood b)
  length_tells = record { so = length_so; sure = length_sure }

  index_so : index_right k n i ≡ true → IndexGood b
  index_so h =
      by_test (eqb k piece_kind)
      (λ t.
      let h' : ltb i (pieces_of n) ≡ true = rw t at h in
      of_piece (eqb-true k piece_kind t) (ltb-true i (pieces_of n) h'))
      (λ t.
      let h' : eqb i 0 ≡ true = rw t at h in
      of_single (eqb-false k piece_kind t) (eqb-true i 0 h'))

  index_sure : IndexGood b → index_right k n i ≡ true
  index_sure (of_piece e l) = rw (eq-eqb k piece_kind e, lt-ltb i (pieces_of n) l)
  index_sure (of_single e z) = rw (ne_eqb k piece_kind e, eq-eqb i 0 z)

  index_tells : Decides (index_right k n i) (IndexGood b)
  index_tells = record { so = index_so; sure = index_sure }

  padding_tells : Decides (padding_right b (used_of k n i)) (PaddingGood b)
  unfolding padding_right
  padding_tells =
      record {
        so = λ z j h l. padding_off b (head_bytes + used_of k n i) j h l z;
        sure = λ f. zeros_sure (drop (head_bytes + used_of k n i) (take summed_bytes b)) (λ j. padding_at b (head_bytes + used_of k n i) j f);
      }

  check_tells : Decides (check_right b) (CheckGood b)
  unfolding check_right
  check_tells = record { so = λ h. eqb-true (word_at b summed_bytes) (check_of (take summed_bytes b)) h; sure = λ h. eq-eqb (word_at b summed_bytes) (check_of (take summed_bytes b)) h }

  -- a fault that is told is the first of the five that is wrong
  abbrev Told : Result Block BlockFault → Type 0
  Told (Err f) = FirstWrong b f
  Told (Ok x) = Always

  told_all : Told (class_of b)
  unfolding class_of_under class_by_under
  told_all =
      pick_told Told (kind_right k) _ _
      (λ a.
      let good = kind_so a in
      pick_told Told (length_right k n) _ _
      (λ c.
      let long = length_so c in
      pick_told Told (index_right k n i) _ _
      (λ d.
      let due = index_so d in
      pick_told Told (padding_right b (used_of k n i)) _ _
      (λ e. pick_told Told (check_right b) (Ok (kind_of k n i)) _ (λ f. tt) (λ f. check good long due (padding_tells.so e) (not_so check_tells f)))
      (λ e. padding good long due (not_so padding_tells e)))
      (λ d. index good long (not_so index_tells d)))
      (λ c. size good (not_so length_tells c)))
      (λ a. kind (not_so kind_tells a))

  pub told_first : (f : BlockFault) → class_of b ≡ Err f → FirstWrong b f
  told_first f e = rw e at told_all

  -- and the other way: the first that is wrong is the one told
  pub first_told : (f : BlockFault) → FirstWrong b f → class_of b ≡ Err f
  unfolding class_of_under class_by_under
  first_told f (kind a) = rw (not_sure kind_tells a)
  first_told f (size a c) = rw (kind_sure a, not_sure length_tells c)
  first_told f (index a c d) = rw (kind_sure a, length_sure c, not_sure index_tells d)
  first_told f (padding a c d e) = rw (kind_sure a, length_sure c, index_sure d, not_sure padding_tells e)
  first_told f (check a c d e h) = rw (kind_sure a, length_sure c, index_sure d, padding_tells.sure e, not_sure check_tells h)

-- what is wrong with a block that can't be taken, by its bytes
module _ (s : List ℕ) (k : ℕ) where
  sound_or_not : (b : Result Block BlockFault) → class_of (block_at s k) ≡ b → k < length s / block_bytes → WrongAt s k (fault_of b)
  unfolding fault_of
  sound_or_not (Err f) e h = by_itself h (told_first (block_at s k) f e)
  sound_or_not (Ok b) e h = misplaced h (λ f w. clash (cc (e, first_told (block_at s k) f w)))

  pub wrong_at : WrongAt s k (fault_of (class_at s k))
  unfolding class_at_under fault_of
  wrong_at =
      pick_told (λ b. WrongAt s k (fault_of b)) (ltb k (length s / block_bytes)) (class_of (block_at s k)) _
      (λ t. sound_or_not (class_of (block_at s k)) refl (ltb-true k (length s / block_bytes) t))
      (λ t. not_there (ltb-false k (length s / block_bytes) t))

  inside : k < length s / block_bytes → class_at s k ≡ class_of (block_at s k)
  unfolding class_at_under
  inside h = rw (lt-ltb k (length s / block_bytes) h)

  absent : length s / block_bytes ≤ k → fault_of (class_at s k) ≡ fault.Index
  unfolding class_at_under fault_of
  absent h = rw (le-ltb k (length s / block_bytes) h)

  -- a block that none of the five is wrong with is sound
  abbrev Soundly : Result Block BlockFault → Type 0
  Soundly b = ((f : BlockFault) → b ≡ Err f → ⊥) → fault_of b ≡ fault.Index

  soundly : (b : Result Block BlockFault) → Soundly b
  unfolding fault_of
  soundly (Err f) g = absurd (g f refl)
  soundly (Ok b) g = refl

  -- one fault only is what is wrong with it
  pub wrong_told : (f : BlockFault) → WrongAt s k f → fault_of (class_at s k) ≡ f
  unfolding fault_of
  wrong_told f (by_itself h w) = rw (inside h, first_told (block_at s k) f w)
  wrong_told f (misplaced h none) = rw (inside h) (soundly (class_of (block_at s k)) (λ f e. none f (told_first (block_at s k) f e)))
  wrong_told f (not_there h) = absent h

-- a letter stands for one fault
pub letter_one : (f g : BlockFault) → letter_of f ≡ letter_of g → f ≡ g
unfolding letter_of
letter_one fault.Kind fault.Kind e = refl
letter_one fault.Kind fault.Length e = absurd (omega arith)
letter_one fault.Kind fault.Index e = absurd (omega arith)
letter_one fault.Kind fault.Padding e = absurd (omega arith)
letter_one fault.Kind fault.Check e = absurd (omega arith)
letter_one fault.Length fault.Kind e = absurd (omega arith)
letter_one fault.Length fault.Length e = refl
letter_one fault.Length fault.Index e = absurd (omega arith)
letter_one fault.Length fault.Padding e = absurd (omega arith)
letter_one fault.Length fault.Check e = absurd (omega arith)
letter_one fault.Index fault.Kind e = absurd (omega arith)
letter_one fault.Index fault.Length e = absurd (omega arith)
letter_one fault.Index fault.Index e = refl
letter_one fault.Index fault.Padding e = absurd (omega arith)
letter_one fault.Index fault.Check e = absurd (omega arith)
letter_one fault.Padding fault.Kind e = absurd (omega arith)
letter_one fault.Padding fault.Length e = absurd (omega arith)
letter_one fault.Padding fault.Index e = absurd (omega arith)
letter_one fault.Padding fault.Padding e = refl
letter_one fault.Padding fault.Check e = absurd (omega arith)
letter_one fault.Check fault.Kind e = absurd (omega arith)
letter_one fault.Check fault.Length e = absurd (omega arith)
letter_one fault.Check fault.Index e = absurd (omega arith)
letter_one fault.Check fault.Padding e = absurd (omega arith)
letter_one fault.Check fault.Check e = refl
