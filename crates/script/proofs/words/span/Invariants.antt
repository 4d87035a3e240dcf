-- `span` meets its contract: what is left stands behind the words passed so far.
use mathlib.Core.Path.{◌≡◌}
use lib.ListN.{drop}
use Rattle.script.specs.Words.{over}
use Rattle.script.proofs.words.span.Given as goal

abbrev pub invariant-loop : goal.invariant-loop
invariant-loop l = l.rest ≡ drop (over l.text l.counter) l.text
