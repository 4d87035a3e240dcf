-- Step 10 looks at the data's extent of every command that has data.
use mathlib.Core.Path.{◌≡◌, refl, sym, ◌∙◌}
use mathlib.Core.Bool.{Bool, true, false, ◌&&◌, true≢false}
use mathlib.Core.List.{List}
use Prim.Native.Nat.{ℕ, ◌+◌, ◌≤◌, ◌<◌, min}
use native.Mathlib.Omega.{arith}
use borrow.Author.Tests.{le-ltb, lt-ltb, ltb-false, ltb-true}
use lib.Dec.{ltb}
use lib.ListN.{length}
use Rattle.std.specs.Prelude.{Option, Some, None}
use Rattle.signals.specs.Codes.{code_of, command_of}
use Rattle.signals.specs.Header.{has_pointer}
use Rattle.signals.specs.declared.codes.Command.{Command}
use Rattle.signals.specs.declared.packet.Header.{Header}
use Rattle.signals.specs.declared.packet.Packet.{Packet}
use Rattle.signals.proofs.Coded.{command_codes}
use Rattle.lists.proofs.Cases.{by_test}
use Rattle.commands.specs.Commands.{DataFit}
use Rattle.advance.specs.Rules.{has_extent}

-- Read, Write Characteristics and Write, by their codes
abbrev pub has_data : Option Command → Bool
has_data None = false
has_data (Some c) = has_pointer (code_of c)

looked_at : (code mode : ℕ) (found : Option Command) → command_of code mode ≡ found → has_data found ≡ true → has_pointer code ≡ true
looked_at code mode None e d = absurd (true≢false (sym d))
looked_at code mode (Some c) e d = rw (command_codes code mode c e).0 d

-- where the test of step 10 finds nothing, the data of a command that has any lie inside memory
pub extent : (h : Header) (p : Packet) (memory : ℕ) (looked : Bool) → looked ≡ has_extent h → (looked && ltb memory (p.pointer + p.count)) ≡ false → has_data (command_of h.code h.mode) ≡ true → p.pointer + p.count ≤ memory
extent h p memory looked e f d =
    let yes : looked ≡ true = e ∙ looked_at h.code h.mode (command_of h.code h.mode) refl d in
    ltb-false memory (p.pointer + p.count) (rw yes at f)

pub data_fit : (h : Header) (p : Packet) (m : List ℕ) (looked : Bool) → looked ≡ has_extent h → (looked && ltb (length m) (p.pointer + p.count)) ≡ false → DataFit (command_of h.code h.mode) p m
data_fit h p m looked e f w = extent h p (length m) looked e f (rw w)

-- a sum that stops at the greatest number of 64 bits is past the end of the same memories
pub saturated : (memory a b : ℕ) → memory < 18446744073709551615 → ltb memory (min (a + b) 18446744073709551615) ≡ ltb memory (a + b)
saturated memory a b l =
    by_test (ltb memory (a + b)) (λ t. lt-ltb memory (min (a + b) 18446744073709551615) (omega (arith, ltb-true memory (a + b) t)) ∙ sym t)
    (λ f. le-ltb memory (min (a + b) 18446744073709551615) (omega (arith, ltb-false memory (a + b) f)) ∙ sym f)
