-- `from_word` meets its contract.
use Rattle.script.proofs.Passing.{word_first}
use Rattle.script.proofs.words.from_word.Goals as goal

pub returns : goal.returns
returns c = word_first _ _ c.pass.ensures.is
