-- `put_numbers` meets its contract: so far the first numbers are put.
use Rattle.std.proofs.Common.{take}
use Rattle.script.specs.Prints.{Put}
use Rattle.results.specs.Lines.{numbers_text}
use Rattle.results.proofs.fields.put_numbers.Given as goal

abbrev pub invariant-loop-n : goal.invariant-loop-n
invariant-loop-n l = Put l.initial.out l.at (numbers_text (take l.n-index l.numbers)) l.out l.next
