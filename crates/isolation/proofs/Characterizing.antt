-- Write Characteristics reads no more than eight bytes of its data, and no more than its count.
use mathlib.Core.Bool.{Bool}
use mathlib.Core.List.{List}
use mathlib.Core.Path.{◌≡◌, refl}
use Prim.Native.Nat.{ℕ, ◌+◌, ◌<◌, ◌≤◌, min}
use native.Mathlib.Omega.{arith}
use borrow.Author.Tests.{ltb-false}
use lib.Dec.{ltb}
use lib.ListN.{get_or, length}
use Rattle.lists.specs.Words.{word_at}
use Rattle.tape.proofs.Below.{pick_agree}
use Rattle.signals.specs.declared.packet.Packet.{Packet}
use Rattle.state.specs.declared.Unit.{Unit}
use Rattle.commands.specs.Commands.{characteristics_at, characterized, characterized_under, mode_word}

-- the bytes that it may read of a packet's data are the same
abbrev pub SameData : List ℕ → List ℕ → Packet → Type 0
SameData m m' p = (i : ℕ) → i < min 8 p.count → get_or m (p.pointer + i) 0 ≡ get_or m' (p.pointer + i) 0

module _ (m m' : List ℕ) (p : Packet) (same : SameData m m' p) where
  word_same : (j i : ℕ) → i + 1 < min 8 p.count → j ≡ p.pointer + i → word_at m j ≡ word_at m' j
  word_same j i h e =
      let next : j + 1 ≡ p.pointer + (i + 1) = omega arith in
      rw (next, e, same i (omega arith), same (i + 1) h)

  -- "mode word (0 if the count is under 8)"
  mode_same : mode_word m p ≡ mode_word m' p
  unfolding mode_word
  mode_same = pick_agree (ltb p.count 8) _ _ _ _ (λ t. refl) (λ t. word_same (p.pointer + 6) 6 (omega (arith, ltb-false p.count 8 t)) refl)

  characteristics_same : 6 ≤ p.count → characteristics_at m p ≡ characteristics_at m' p
  unfolding characteristics_at
  characteristics_same h =
      rw (mode_same, word_same p.pointer 0 (omega arith) (omega arith), word_same (p.pointer + 2) 2 (omega arith) refl, word_same (p.pointer + 4) 4 (omega arith) refl)

  -- a count under 6 is refused with none of them read
  pub characterized_same : length m ≡ length m' → (u : Unit) (ie : Bool) → characterized u m p ie ≡ characterized u m' p ie
  unfolding characterized_under
  characterized_same long u ie =
      pick_agree (ltb p.count 6) _ _ _ _ (λ t. refl) (λ t. rw (long, characteristics_same (ltb-false p.count 6 t)))
