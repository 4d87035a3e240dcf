-- A session's numbers stored over a block are the session's block.
use mathlib.Core.Path.{◌≡◌, sym, ap, ◌∙◌}
use mathlib.Core.List.{List}
use native.Mathlib.Omega.{arith}
use Prim.Native.Nat.{ℕ}
use lib.ListN.{length, length-append}
use lib.Seq.{sets}
use Rattle.lists.specs.Fours.{number_bytes}
use Rattle.lists.proofs.Stores.{sets_at, sets_whole}
use Rattle.entries.specs.Numbers.{numbers_of}
use Rattle.entries.specs.Bytes.{numbers_bytes, head_length}
use Rattle.entries.specs.declared.Entry.{Entry}
use Rattle.entries.proofs.Joined.{head_long}
use Rattle.worlds.specs.declared.Session.{Session}
use Rattle.stateblock.specs.Block.{state_block, entry_with, state_length}

pub length_block : (s : Session) → length (state_block s) ≡ state_length
unfolding state_block
length_block s = omega (arith, length-append (numbers_bytes (numbers_of (entry_with s))) (number_bytes 0), head_long (entry_with s))

pub written : (b b₁ b' n : List ℕ) (e : Entry) (s : Session) → length b ≡ state_length → e ≡ entry_with s → n ≡ numbers_of e → b₁ ≡ sets b 0 (numbers_bytes n) → b' ≡ sets b₁ head_length (number_bytes 0) → b' ≡ state_block s
unfolding state_block
written b b₁ b' n e s l p q h k =
    let head : List ℕ = numbers_bytes (numbers_of (entry_with s)) in
    k
    ∙ ap (λ (x : List ℕ). sets x head_length (number_bytes 0)) (h ∙ ap (λ (x : List ℕ). sets b 0 (numbers_bytes x)) (q ∙ ap numbers_of p))
    ∙ sets_at head (number_bytes 0) b 0 head_length (omega (arith, head_long (entry_with s)))
    ∙ sets_whole (state_block s) b (length_block s ∙ sym l)
