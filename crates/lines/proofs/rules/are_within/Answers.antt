-- `are_within` meets its contract: it asks each word.
use mathlib.Core.Path.{◌∙◌}
use mathlib.Core.Bool.{◌||◌, not}
use Rattle.std.proofs.Common.{rules, tests, refl}
use Rattle.std.proofs.lemmas.Iterator.{YieldsList-from_range}
use Rattle.std.proofs.lemmas.Iterator.Search.{all_from_yields_List}
use Rattle.lines.specs.Makes.{number_at}
use Rattle.lines.specs.Starts.{has_word}
use Rattle.lines.specs.Rules.{held_by}
use Rattle.lines.proofs.Ruled.{within_all}
use Rattle.lines.proofs.rules.are_within.Goals as goal

pub returns : goal.returns
returns c =
    all_from_yields_List (λ k. not (has_word c.args.a.now k) || held_by c.args.b.now (number_at c.args.a.now k)) _ _ c.all.result c.all.ensures.ran (YieldsList-from_range 1 15 14 refl refl) (λ x b q k. search (rules, tests))
    ∙ within_all c.args.a.now c.args.b.now 14
