-- Laws of bytes made from a seed.
use mathlib.Core.Path.{◌≡◌, sym, ap, ◌∙◌}
use mathlib.Core.List.{List, ◌++◌}
use Prim.Native.Nat.{ℕ, ◌+◌, ◌≤◌}
use native.Mathlib.Omega.{arith}
use borrow.Author.Tests.{le-ltb}
use lib.ListN.{length, take, drop, length-take}
use lib.Seq.{sets-eq}
use Rattle.script.specs.Fills.{generated}
use Rattle.script.proofs.Filled.{length_generated}
use Rattle.lines.specs.Gives.{made_filled}

pub made_done : (n seed : ℕ) (b g : List ℕ) → n ≤ length b → g ≡ generated seed (length (take n b)) → g ++ drop n b ≡ made_filled n seed b
unfolding made_filled
made_done n seed b g h e =
    let k : length (take n b) ≡ n = omega (arith, length-take n b) in
    let w = length_generated seed n in
    let r : 0 + length (generated seed n) ≡ n = omega (arith, w) in
    rw (le-ltb (length b) n h, e, k) (sym (sets-eq (generated seed n) b 0 (omega (arith, w)) ∙ ap (λ (m : ℕ). generated seed n ++ drop m b) r))
