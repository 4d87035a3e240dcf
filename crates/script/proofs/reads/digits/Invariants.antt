-- `digits` meets its contract: what the digits from here say behind the number so far is what all of them say.
use mathlib.Core.Path.{◌≡◌}
use lib.ListN.{drop}
use Rattle.script.specs.Numbers.{said}
use Rattle.script.proofs.reads.digits.Given as goal

abbrev pub invariant-loop-b : goal.invariant-loop-b
invariant-loop-b l = said l.base 0 l.text ≡ said l.base l.value (drop l.b-index l.text)
