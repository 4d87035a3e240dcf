-- `letter` meets its contract, fault by fault.
use borrow.Author.Rules.{rules}
use Rattle.tape.specs.Letters.{letter_of}
use Rattle.tape.proofs.letter.Goals as goal

pub returns-in-Kind : goal.returns-in-Kind
unfolding letter_of
returns-in-Kind c = search rules

pub returns-in-Length : goal.returns-in-Length
unfolding letter_of
returns-in-Length c = search rules

pub returns-in-Index : goal.returns-in-Index
unfolding letter_of
returns-in-Index c = search rules

pub returns-in-Padding : goal.returns-in-Padding
unfolding letter_of
returns-in-Padding c = search rules

pub returns-in-Check : goal.returns-in-Check
unfolding letter_of
returns-in-Check c = search rules
