-- The definition lists what the image holds, and nothing else is a listing of it.
use mathlib.Core.Path.{◌≡◌, refl, sym, ap, ◌∙◌}
use mathlib.Core.List.{List, [], ◌∷◌, ◌++◌, append_assoc, append-nil}
use Prim.Native.Nat.{ℕ, zero, suc, ◌+◌, ◌*◌, ◌/◌, ◌%◌, ◌≤◌}
use native.Mathlib.Omega.{arith}
use borrow.Author.Tests.{eqb-false, eqb-true, ltb-false, ltb-true}
use lib.Dec.{eqb, ltb}
use lib.ListN.{length}
use Rattle.lists.specs.Words.{Bytes}
use Rattle.lists.proofs.Cases.{by_test}
use Rattle.tape.specs.Listing.{examined, image_limit, image_swept}
use Rattle.tape.specs.Meeting.{met_as}
use Rattle.tape.specs.Numbers.{block_bytes}
use Rattle.tape.specs.Objects.{Holds, Object, blocks_in, blocks_of, gap, mark, record_of}
use Rattle.tape.specs.Sweep.{swept_below}
use Rattle.tape.specs.declared.ImageFault.{ImageFault}
use Rattle.tape.specs.declared.ImageFault.TheVariants as image
use Rattle.tape.specs.Sweep.{Swept}
use Rattle.tape.proofs.Images.{blocks_append, one_or_more}
use Rattle.tape.proofs.Passes.{allowed_at, forward_ends, forward_meets}
use Rattle.tape.proofs.Blame.{swept_wrong}
use Rattle.tape.proofs.Sweeps.{swept_whole, whole_swept}
use Rattle.reel.proofs.Examined.{image_long, image_ragged, image_swept_lem}
use Rattle.lister.specs.Lines.{letter_e, line_of, lines_of, number_line}
use Rattle.lister.specs.Listed.{Listing, bad, lines_from, listed, listed_as, met_line, met_next, not_whole, objects, too_long}
use Rattle.std.specs.Prelude.{Result, Ok, Err}
use Rattle.tape.specs.Damage.{damage}

-- an object met is listed by its line, and the next is met beyond it
line_met : (o : Object) (p q : ℕ) → met_line p (met_as o q) ≡ line_of p o
unfolding met_line met_as line_of
line_met (record_of d) p q = refl
line_met mark p q = refl
line_met gap p q = refl

next_met : (o : Object) (e q : ℕ) → met_next e (met_as o q) ≡ q
unfolding met_next met_as
next_met (record_of d) e q = refl
next_met mark e q = refl
next_met gap e q = refl

module _ (s : List ℕ) (e : ℕ) where
  no_lines : (turns : ℕ) → lines_from turns s e e ≡ []
  unfolding lines_from met_line met_next
  no_lines zero = refl
  no_lines (suc turns) = rw (forward_ends s e) (no_lines turns)

  -- each turn lists one object, and there are turns for all that are left
  lines_met : (turns : ℕ) (before after : List Object) → Holds s e (before ++ after) → blocks_of after ≤ turns → lines_from turns s (blocks_of before) e ≡ lines_of (blocks_of before) after
  unfolding lines_from lines_of blocks_of
  lines_met turns before [] h k =
      let end : blocks_of before ≡ e = rw append-nil at h.ends in
      rw end (no_lines turns)
  lines_met zero before (o ∷ after) h k = absurd (omega (arith, one_or_more o (allowed_at before o after h.allowed)))
  lines_met (suc turns) before (o ∷ after) h k =
      let on : blocks_of (before ++ o ∷ []) ≡ blocks_of before + blocks_in o = omega (arith, blocks_append before (o ∷ [])) in
      rw (forward_meets before o after h, line_met, next_met, ← on)
      (ap (λ (l : List ℕ). line_of (blocks_of before) o ++ l) (lines_met turns (before ++ o ∷ []) after (rw append_assoc h) (omega (arith, one_or_more o (allowed_at before o after h.allowed)))))

  pub lines_objects : {os : List Object} → Holds s e os → lines_from e s 0 e ≡ lines_of 0 os
  unfolding blocks_of
  lines_objects {os} h = lines_met e [] os h (omega (arith, h.ends))

module _ (s : List ℕ) where
  listed_by : (i : Result ℕ ImageFault) → i ≡ examined s → listed_as s i ≡ listed s
  unfolding listed
  listed_by i e = ap (listed_as s) e

  image_whole : (e : ℕ) → length s ≤ image_limit → block_bytes * e ≡ length s → swept_below s e ≡ Ok tt → Ok e ≡ examined s
  unfolding image_swept
  image_whole e h k w =
      let q : length s / block_bytes ≡ e = omega arith in
      image_swept_lem s {w = Ok tt} h (omega arith) (rw q (sym w)) (ap Ok (sym q))

  -- no other text is a listing of the image
  pub listed_one : (t : List ℕ) → Listing s t → t ≡ listed s
  unfolding listed_as
  listed_one t (objects os e h k holds) = ap (λ (l : List ℕ). l ++ number_line letter_e e) (sym (lines_objects s e holds)) ∙ listed_by (Ok e) (image_whole e h k (swept_whole s e holds))
  listed_one t (too_long h) = listed_by (Err image.TooLong) (image_long s h)
  listed_one t (not_whole h k) = listed_by (Err image.NotWhole) (image_ragged s h k)
  listed_one t (bad why k x e) = listed_by (Err (image.Bad (damage why k))) (sym e)

  listed_as_lem : (t : List ℕ) → Listing s t → Listing s (listed s)
  listed_as_lem t l = rw (listed_one t l) at l

  listed_swept : (w : Swept) → Bytes s → length s ≤ image_limit → length s % block_bytes ≡ 0 → w ≡ swept_below s (length s / block_bytes) → Listing s (listed s)
  unfolding image_swept
  listed_swept (Ok u) b h k w =
      let e : ℕ = length s / block_bytes in
      let well = whole_swept s e b (sym w) in
      listed_as_lem _ (objects well.0 e h (omega arith) well.1)
  listed_swept (Err d) b h k w = listed_as_lem _ (bad d.fault d.block (swept_wrong s (length s / block_bytes) (sym w)) (sym (image_swept_lem s h k w refl)))

  -- the bytes that the program prints are the image's listing
  pub listed_is : Bytes s → Listing s (listed s)
  listed_is b =
      by_test (ltb image_limit (length s))
      (λ l. listed_as_lem _ (too_long (ltb-true image_limit (length s) l)))
      (λ l. by_test (eqb (length s % block_bytes) 0)
      (λ z. listed_swept (swept_below s (length s / block_bytes)) b (ltb-false image_limit (length s) l) (eqb-true (length s % block_bytes) 0 z) refl)
      (λ z. listed_as_lem _ (not_whole (ltb-false image_limit (length s) l) (eqb-false (length s % block_bytes) 0 z))))
