-- "Write counts of 16,385 to 65,535 no longer give NEF" (02, [7]): of the lengths that a packet's word can ask for, 0 alone is out of range.
use mathlib.Core.Bool.{Bool, true, false, ◌||◌, ◌&&◌}
use mathlib.Core.List.{List}
use mathlib.Core.Path.{◌≡◌, refl}
use Prim.Native.Nat.{ℕ, ◌+◌, ◌≤◌}
use native.Mathlib.Omega.{arith}
use borrow.Author.Tests.{le-ltb}
use lib.Dec.{eqb}
use Rattle.lists.specs.Words.{Bytes, word_at}
use Rattle.tape.specs.Numbers.{record_limit}
use Rattle.signals.specs.Header.{has_pointer, packet_of}
use Rattle.signals.specs.declared.packet.Header.{Header}
use Rattle.signals.specs.declared.packet.Packet.{Packet}
use Rattle.state.specs.declared.Unit.{Unit}
use Rattle.state.proofs.Tests.{either}
use Rattle.advance.specs.Rules.{not_executable, not_executable_under, reverse_first}

word_most : (m : List ℕ) (i : ℕ) → Bytes m → word_at m i ≤ record_limit
word_most m i b = omega (arith, b i, b (i + 1))

-- a packet's count is such a word, or 0
count_most : (m : List ℕ) (at code : ℕ) → Bytes m → (packet_of m at code).count ≤ record_limit
unfolding packet_of
count_most m at code b =
    either (λ (p : Packet). p.count ≤ record_limit) (has_pointer code) _ _ (word_most m (at + 6) b)
    (either (λ (p : Packet). p.count ≤ record_limit) (eqb code 8) _ _ (word_most m (at + 2) b) (omega arith))

or_false : (a b : Bool) → b ≡ false → (a || b) ≡ a
or_false true b h = refl
or_false false b h = h

-- step 9's last test: reverse at block 0, or a Write of no bytes
pub only_zero : (u : Unit) (m : List ℕ) (at : ℕ) (h : Header) → Bytes m
    → not_executable u h (packet_of m at h.code) ≡ ((reverse_first h && eqb u.tape.position 0) || (eqb h.code 5 && eqb (packet_of m at h.code).count 0))
unfolding not_executable_under
only_zero u m at h b =
    let n : ℕ = (packet_of m at h.code).count in
    rw (or_false (eqb n 0) _ (le-ltb record_limit n (count_most m at h.code b)))
