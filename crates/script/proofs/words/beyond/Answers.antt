-- `beyond` meets its contract.
use Rattle.script.proofs.Passing.{word_beyond}
use Rattle.script.proofs.words.beyond.Goals as goal

pub returns : goal.returns
returns c = word_beyond _ _ _ c.from_word-word.ensures c.pass.ensures.is
