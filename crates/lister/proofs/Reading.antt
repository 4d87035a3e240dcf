-- What was read of an image is listed as the whole image is: of one that is too long, a byte beyond the limit is enough.
use Rattle.std.proofs.Common.{◌≡◌, ◌≤◌, ℕ, ◌+◌, ◌<◌, List, [], ◌++◌, None, Some, IfSome, Result, Ok, Err, OnOk, subst, arith, length, take, sym, ap, ◌∙◌, refl, append_assoc, append-nil, length-take-le, take_all}
use Rattle.std.proofs.lemmas.List.{take-append-le}
use Rattle.std.proofs.Math.Seq.{take-append-add}
use borrow.Rule.Slice.PartMut.{post_of, put_mid}
use Rattle.std.specs.declared.option.Option.{Option}
use Rattle.std.specs.Io.KnownBytes.{Appends, Consumes, IsAtEnd}
use borrow.Author.Tests.{ltb-false, ltb-true}
use lib.Dec.{ltb}
use Rattle.lists.proofs.Cases.{by_test}
use Rattle.tape.specs.Listing.{image_limit}
use Rattle.tape.specs.declared.ImageFault.TheVariants as image
use Rattle.reel.proofs.Examined.{image_long}
use Rattle.lister.specs.Listed.{listed, listed_as}

-- what two reads in a row took
pub taken_both : (a b c : Option (List ℕ)) (s t : List ℕ) → Consumes a b s → Consumes b c t → Consumes a c (s ++ t)
taken_both None b c s t p q = tt
taken_both (Some x) None c s t p q = absurd p
taken_both (Some x) (Some y) None s t p q = absurd q
taken_both (Some x) (Some y) (Some z) s t p q = p ∙ ap (λ (l : List ℕ). s ++ l) q ∙ sym (append_assoc s t z)

pub taken_none : (a : Option (List ℕ)) → Consumes a a []
taken_none None = tt
taken_none (Some x) = refl

-- a full buffer has as much as it holds, and a read to the end all
pub got_full : (a b : Option (List ℕ)) (new : List ℕ) (n : ℕ) → Consumes a b (take n new) → n ≡ length new → IfSome a (λ xs. take n new ≡ take (length new) xs)
got_full None b new n p e = tt
got_full (Some x) None new n p e = absurd p
got_full (Some x) (Some y) new n p e =
    let k : length (take n new) ≡ n = length-take-le n new (omega arith) in
    sym (rw (p, ← e) (take-append-le n (take n new) y (omega arith) ∙ take_all n (take n new) (omega arith)))

pub got_end : (a b : Option (List ℕ)) (new : List ℕ) (n : ℕ) → Consumes a b (take n new) → n ≤ length new → IsAtEnd b → IfSome a (λ xs. take n new ≡ take (length new) xs)
got_end None b new n p h e = tt
got_end (Some x) None new n p h e = absurd p
got_end (Some x) (Some y) new n p h e =
    let k : length (take n new) ≡ n = length-take-le n new h in
    let all : x ≡ take n new = p ∙ rw (e, append-nil) in
    sym (rw all (take_all (length new) (take n new) (omega arith)))

long_listed : (s : List ℕ) → image_limit < length s → listed_as s (Err image.TooLong) ≡ listed s
unfolding listed
long_listed s h = ap (listed_as s) (image_long s h)

-- one byte more than the longest image tells that it is too long
pub cut_listed : (s : List ℕ) → listed (take (image_limit + 1) s) ≡ listed s
unfolding listed_as
cut_listed s =
    by_test (ltb image_limit (length s))
    (λ e. let h = ltb-true image_limit (length s) e in
    let k : length (take (image_limit + 1) s) ≡ image_limit + 1 = length-take-le (image_limit + 1) s (omega arith) in
    sym (long_listed (take (image_limit + 1) s) (omega arith)) ∙ long_listed s h)
    (λ e. ap listed (take_all (image_limit + 1) s (omega (arith, ltb-false image_limit (length s) e))))

-- the front of a buffer after a read went into what is behind its first a bytes
pub put_taken : (a k n : ℕ) (s t : List ℕ) → a ≤ length s → n ≤ length t → take (a + n) (put_mid a k s t) ≡ take a s ++ take n t
put_taken a k n s t h i =
    let l : length (take a s) ≡ a = length-take-le a s h in
    let e : take (length (take a s) + n) (take a s ++ (t ++ post_of a k s)) ≡ take a s ++ take n (t ++ post_of a k s) = take-append-add (take a s) (t ++ post_of a k s) n in
    (rw l at e) ∙ ap (λ (x : List ℕ). take a s ++ x) (take-append-le n t (post_of a k s) i)

-- what goes out for the bytes that were read is the listing of all that the reader had
pub read_listed : {T F : Type 0} (r : Result T F) (a w w' : Option (List ℕ)) (t : List ℕ) (k : ℕ) → k ≡ image_limit + 1 → IfSome a (λ xs. t ≡ take k xs) → OnOk r (Appends w w' (listed t)) → OnOk r (IfSome a (λ xs. Appends w w' (listed xs)))
read_listed (Err x) a w w' t k e h p = tt
read_listed (Ok x) None w w' t k e h p = tt
read_listed (Ok x) (Some s) w w' t k e h p =
    let same : listed t ≡ listed s = rw (h, e) (cut_listed s) in
    subst (Appends w w') same p
