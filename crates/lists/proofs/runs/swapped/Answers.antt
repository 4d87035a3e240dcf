-- `swapped` meets its contract. So far the first j words are swapped.
use borrow.Author.Rules.{rules}
use native.Mathlib.Omega.{arith}
use mathlib.Core.Bool.{true}
use mathlib.Core.Path.{◌≡◌, refl, ◌∙◌}
use Prim.Native.Nat.{◌+◌, ◌*◌}
use lib.ListN.{length}
use Rattle.lists.specs.Places.{gathered}
use Rattle.lists.proofs.Placed.{length_gathered}
use Rattle.lists.proofs.Stores.{sets_whole}
use Rattle.lists.proofs.Swapped.{swap_word}
use Rattle.lists.proofs.runs.swapped.Goals as goal

pub loop-j-init : goal.loop-j-init
unfolding gathered
loop-j-init g c = refl

pub loop-j-preserved : goal.loop-j-preserved
loop-j-preserved g c =
    let j = c.loop-j.j in
    let e : 2 * (j + 1) ≡ 2 * j + 2 = omega arith in
    let long : length c.args.r ≡ g.row.N = search rules in
    c.swap.ensures.after ∙ rw e (swap_word c.args.r c.loop-j.s (2 * j) (omega arith) (omega arith) c.loop-j.invariant)

pub returns : goal.returns
returns g c =
    let n = g.row.N in
    let e : 2 * c.loop-j.j ≡ n = omega arith in
    let long : length c.args.r ≡ n = search rules in
    c.loop-j.invariant ∙ rw e (sets_whole (gathered true c.args.r 0 n) c.args.r (length_gathered true c.args.r 0 n ∙ rw long))
