-- `word_sum` meets its contract. So far the sum is that of the first j words, and low enough not to wrap.
use mathlib.Core.Path.{◌≡◌}
use Prim.Native.Nat.{◌≤◌, ◌-◌, ◌*◌}
use lib.ListN.{take}
use Rattle.lists.specs.Words.{word_limit, word_sum}
use Rattle.lists.proofs.words.word_sum.Given as goal

abbrev pub invariant-loop-j : goal.invariant-loop-j
invariant-loop-j l = (l.sum ≡ word_sum (take (2 * l.j) l.b)) × (l.sum ≤ (word_limit - 1) * l.j)
