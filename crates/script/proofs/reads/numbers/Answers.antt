-- `numbers` meets its contract: the first word that is no number says why.
use mathlib.Core.Path.{sym, ◌∙◌}
use Rattle.script.proofs.Said.{all_three, first_wrong, refused, second_wrong, third_wrong}
use Rattle.script.proofs.reads.numbers.Goals as goal

pub returns-in_err-a : goal.returns-in_err-a
returns-in_err-a c = refused _ _ c.from_residual.ensures.1 ∙ first_wrong _ _ _ _ (sym c.wanted.ensures ∙ c.in_err-a.was)

pub returns-in_err-b : goal.returns-in_err-b
returns-in_err-b c =
    refused _ _ c.from_residual-in_err-b.ensures.1 ∙ second_wrong _ _ _ _ _ (sym c.wanted.ensures ∙ c.in_ok-a.was) (sym c.wanted-2.ensures ∙ c.in_err-b.was)

pub returns-in_err-c : goal.returns-in_err-c
returns-in_err-c c =
    refused _ _ c.from_residual-in_err-c.ensures.1
    ∙ third_wrong _ _ _ _ _ _ (sym c.wanted.ensures ∙ c.in_ok-a.was) (sym c.wanted-2.ensures ∙ c.in_ok-b.was) (sym c.wanted-3.ensures ∙ c.in_err-c.was)

pub returns : goal.returns
returns c = all_three _ _ _ _ _ _ (sym c.wanted.ensures ∙ c.in_ok-a.was) (sym c.wanted-2.ensures ∙ c.in_ok-b.was) (sym c.wanted-3.ensures ∙ c.in_ok-c.was)
