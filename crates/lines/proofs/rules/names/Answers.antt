-- `names` meets its contract: it asks each word.
use mathlib.Core.Path.{◌∙◌}
use Rattle.std.proofs.Common.{rules, tests, refl}
use Rattle.std.proofs.lemmas.Iterator.{YieldsList-from_range}
use Rattle.std.proofs.lemmas.Iterator.Search.{any_from_yields_List}
use Rattle.lines.specs.Makes.{number_at}
use Rattle.lines.specs.Rules.{says}
use Rattle.lines.proofs.Ruled.{named_any}
use Rattle.lines.proofs.rules.names.Goals as goal

pub returns : goal.returns
returns c =
    any_from_yields_List (λ k. says (number_at c.args.text.now k) c.args.n) _ _ c.any.result c.any.ensures.ran (YieldsList-from_range 1 15 14 refl refl) (λ x b q k. search (rules, tests))
    ∙ named_any c.args.text.now c.args.n 14
