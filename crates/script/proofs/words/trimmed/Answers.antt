-- `trimmed` meets its contract.
use Rattle.script.proofs.Found.{trim_none, trim_some}
use Rattle.std.proofs.lemmas.Grind.{common_steps}
use native.Mathlib.Omega.{arith}
use Rattle.script.proofs.words.trimmed.Goals as goal

pub returns-in-Some : goal.returns-in-Some
returns-in-Some c = trim_some c.args.text.now _ c.from_word-word.ensures c.in-Some.i (grind (arith, common_steps)) (grind (arith, common_steps)) (grind (arith, common_steps))

pub returns-in-None : goal.returns-in-None
returns-in-None c = trim_none c.args.text.now _ c.from_word-word.ensures (grind (arith, common_steps))
