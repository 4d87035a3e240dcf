-- `pass` meets its contract: the first byte of the other kind is found.
use mathlib.Core.Path.{◌≡◌, sym, ◌∙◌}
use mathlib.Core.Bool.{true, false, beq}
use lib.Dec.{ltb}
use borrow.Author.Rules.{rules}
use borrow.Author.Tests.{tests}
use Rattle.std.proofs.lemmas.Iterator.{IsFirst-from_position, YieldsList-from_slice, index_from_first}
use Rattle.script.specs.Words.{spanned}
use Rattle.script.proofs.Passing.{spanned_hit, spanned_miss, spanned_none}
use Rattle.script.proofs.words.pass.Goals as goal

pub returns-clause-is : goal.returns-clause-is
returns-clause-is c =
    let b = c.args.blank in
    let first = IsFirst-from_position _ _ _ (λ x. beq (ltb x 33) b ≡ false) (λ x. beq (ltb x 33) b ≡ true) c.position-end.ensures.ran (YieldsList-from_slice c.args.text.now cc) (λ x q k. search (rules, tests)) (λ x q k. search (rules, tests)) in
    c.unwrap_or.ensures ∙ sym (index_from_first (spanned b) (λ x. beq (ltb x 33) b ≡ false) (λ x. beq (ltb x 33) b ≡ true) (spanned_none b) (spanned_hit b) (spanned_miss b) c.args.text.now _ first)
