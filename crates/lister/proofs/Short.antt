-- The listing of any image is short: at most 128 objects of 134 bytes each, and a last line.
use mathlib.Core.Bool.{false}
use mathlib.Core.List.{List, [], ◌∷◌, ◌++◌}
use mathlib.Core.Path.{◌≡◌, refl}
use Prim.Native.Nat.{ℕ, zero, suc, ◌+◌, ◌*◌, ◌/◌, ◌%◌, ◌^◌, ◌≤◌}
use native.Mathlib.Omega.{arith}
use borrow.Author.Tests.{ltb-false}
use lib.Dec.{eqb, ltb}
use lib.ListN.{length, length-append}
use Rattle.io.specs.Digits.{last_digits, hex_digit_ascii}
use Rattle.lists.specs.Pick.{Always, pick}
use Rattle.lists.proofs.Cases.{pick_told}
use Rattle.tape.specs.Listing.{examined, image_limit, image_swept}
use Rattle.tape.specs.Numbers.{block_bytes}
use Rattle.tape.specs.Pass.{passed}
use Rattle.tape.specs.Sweep.{swept_below}
use Rattle.tape.specs.Letters.{letter_of}
use Rattle.tape.specs.declared.BlockFault.{BlockFault}
use Rattle.tape.specs.declared.ImageFault.{ImageFault}
use Rattle.tape.specs.declared.ImageFault.TheVariants as image
use Rattle.tape.specs.declared.Met.{Met}
use Rattle.tape.specs.declared.Met.TheVariants as met
use Rattle.tape.specs.Sweep.{Swept}
use Rattle.script.specs.Spelling.{places_from, spelling}
use Rattle.lister.specs.Lines.{bad_line, decimal, number_line, record_line}
use Rattle.lister.specs.Listed.{lines_from, listed, listed_as, listing_limit, met_line, met_next}
use Rattle.std.specs.Prelude.{Result, Ok, Err}
use Rattle.tape.specs.declared.Damage.{Damage}

length_digits : (b k n : ℕ) → length (last_digits b k n) ≡ k
length_digits b zero n = refl
length_digits b (suc k) n = omega (arith, length-append (last_digits b k (n / b)) (hex_digit_ascii (n % b) ∷ []), length_digits b k (n / b))

places_most : (b n k more : ℕ) → places_from b n k more ≤ k + more
unfolding places_from
places_most b n k zero = omega arith
places_most b n k (suc more) = pick_told (λ (j : ℕ). j ≤ k + suc more) (ltb n (b ^ k)) k (places_from b n (suc k) more) (λ e. omega arith) (λ e. omega (arith, places_most b n (suc k) more))

decimal_short : (n : ℕ) → length (decimal n) ≤ 65
unfolding spelling
decimal_short n = omega (arith, length_digits 10 (places_from 10 n 1 64) n, places_most 10 n 1 64)

number_short : (letter k : ℕ) → length (number_line letter k) ≤ 68
unfolding number_line
number_short letter k = omega (arith, decimal_short k, length-append (decimal k) (10 ∷ []))

record_short : (p n : ℕ) → length (record_line p n) ≤ 134
unfolding record_line
record_short p n =
    omega (arith, decimal_short p, decimal_short n, length-append (decimal n) (10 ∷ []), length-append (decimal p) (32 ∷ (decimal n ++ (10 ∷ []))))

bad_short : (why : BlockFault) (k : ℕ) → length (bad_line why k) ≤ 70
unfolding bad_line
bad_short why k = omega (arith, decimal_short k, length-append (decimal k) (32 ∷ letter_of why ∷ 10 ∷ []))

met_short : (p : ℕ) (m : Result Met Damage) → length (met_line p m) ≤ 134
unfolding met_line
met_short p (Ok (met.Record n q)) = record_short p n
met_short p (Ok (met.Mark q)) = omega (arith, number_short 77 p)
met_short p (Ok (met.Gap q)) = omega (arith, number_short 71 p)
met_short p (Ok met.Nothing) = omega arith
met_short p (Err d) = omega arith

lines_short : (turns : ℕ) (s : List ℕ) (p e : ℕ) → length (lines_from turns s p e) ≤ 134 * turns
unfolding lines_from
lines_short zero s p e = omega arith
lines_short (suc turns) s p e =
    let m : Result Met Damage = passed s false p e in
    omega (arith, met_short p m, lines_short turns s (met_next e m) e, length-append (met_line p m) (lines_from turns s (met_next e m) e))

-- a recorded end that the listing goes up to
abbrev Bounded : Result ℕ ImageFault → Type 0
Bounded (Ok e) = block_bytes * e ≤ image_limit
Bounded (Err (image.Bad d)) = Always
Bounded (Err image.TooLong) = Always
Bounded (Err image.NotWhole) = Always

swept_bounded : (e : ℕ) (w : Swept) → block_bytes * e ≤ image_limit → Bounded (image_swept e w)
unfolding image_swept
swept_bounded e (Ok u) h = h
swept_bounded e (Err d) h = tt

bounded : (s : List ℕ) → Bounded (examined s)
unfolding examined
bounded s =
    let e : ℕ = length s / block_bytes in
    let whole : Result ℕ ImageFault = image_swept e (swept_below s e) in
    pick_told Bounded (ltb image_limit (length s)) (Err image.TooLong) (pick (eqb (length s % block_bytes) 0) whole (Err image.NotWhole))
    (λ l. tt)
    (λ l. pick_told Bounded (eqb (length s % block_bytes) 0) whole (Err image.NotWhole)
    (λ z. swept_bounded e (swept_below s e) (omega (arith, ltb-false image_limit (length s) l)))
    (λ z. tt))

as_short : (s : List ℕ) (i : Result ℕ ImageFault) → Bounded i → length (listed_as s i) ≤ listing_limit
unfolding listed_as
as_short s (Ok e) b = omega (arith, lines_short e s 0 e, number_short 69 e, length-append (lines_from e s 0 e) (number_line 69 e))
as_short s (Err (image.Bad d)) b = omega (arith, bad_short d.fault d.block)
as_short s (Err image.TooLong) b = omega arith
as_short s (Err image.NotWhole) b = omega arith

pub listed_short : (s : List ℕ) → length (listed s) ≤ listing_limit
unfolding listed
listed_short s = as_short s (examined s) (bounded s)
