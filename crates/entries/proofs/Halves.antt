-- An array of numbers whose two parts were filled one after the other; a flag's number.
use mathlib.Core.Path.{◌≡◌, refl, ap, ◌∙◌}
use mathlib.Core.Bool.{Bool, true, false}
use mathlib.Core.List.{List, [], ◌++◌, append-nil}
use Prim.Native.Nat.{ℕ, ◌+◌}
use native.Mathlib.Omega.{arith}
use borrow.Rule.Slice.PartMut.{put_mid}
use lib.ListN.{length, drop, drop_of_length-le, length-append}
use lib.Seq.{sets-eq, take_at}
use Rattle.lists.proofs.Stores.{put_sets}
use Rattle.std.specs.Int.{from_bool}
use Rattle.entries.specs.Numbers.{bit_of}

pub bit : (b : Bool) → from_bool b ≡ bit_of b
bit true = refl
bit false = refl

pub halves : (n k : ℕ) (a z b a' b' : List ℕ) → length a ≡ n → length z ≡ k → length b' ≡ k → a ≡ a' → b ≡ b' → put_mid n k (a ++ z) b ≡ a' ++ b'
halves n k a z b a' b' ha hz hb p q =
    let long : length b ≡ k = ap length q ∙ hb in
    let whole : length (a ++ z) ≡ n + k = omega (arith, length-append a z) in
    let none : drop (n + length b) (a ++ z) ≡ [] = drop_of_length-le (a ++ z) {i = n + length b} (omega arith) in
    put_sets n k (a ++ z) b long (omega arith)
    ∙ sets-eq b (a ++ z) n (omega arith)
    ∙ rw (none, append-nil, take_at a z n ha, p, q)
