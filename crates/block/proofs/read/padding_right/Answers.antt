-- `padding_right` meets its contract: each byte is tested as the definition tests it.
use borrow.Author.Rules.{rules}
use borrow.Author.Tests.{tests}
use mathlib.Core.Path.{◌∙◌}
use Prim.Native.Nat.{◌+◌, ◌-◌}
use lib.Dec.{eqb}
use lib.ListN.{take, drop}
use Rattle.std.proofs.lemmas.Iterator.Search.{all_from_yields_List}
use Rattle.std.proofs.lemmas.Iterator.{YieldsList-from_slice}
use Rattle.tape.specs.Numbers.{head_bytes, summed_bytes}
use Rattle.block.proofs.Padding.{padding_bytes}
use Rattle.block.proofs.read.padding_right.Goals as goal

pub returns : goal.returns
returns c =
    let i = head_bytes + c.args.used in
    let part = take (summed_bytes - i) (drop i c.args.b.now) in
    all_from_yields_List (λ x. eqb x 0) _ _ c.all.result c.all.ensures.ran (YieldsList-from_slice part cc) (λ x b q k. search (rules, tests)) ∙ padding_bytes c.args.b.now c.args.used c.requires
