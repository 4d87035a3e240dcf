-- The bytes that a line gives, put at the front of a slice: how many, or what is wrong; and what the slice has then.
use Rattle.std.specs.Prelude.{List, ℕ, ltb, length, Result, Ok, Err}
use Rattle.std.proofs.lemmas.List.Edits.{sets}
use Rattle.lists.specs.Pick.{pick}
use Rattle.script.specs.declared.Fault.{Fault}
use Rattle.script.specs.declared.Fault.TheVariants as fault
use Rattle.script.specs.Fills.{generated, hex_answer, hex_filled}
use Rattle.script.specs.Words.{word_from}
use Rattle.lines.specs.declared.Given.{Given}
use Rattle.lines.specs.declared.Given.TheVariants as given

-- n bytes made from a seed
unfoldable pub made_answer : ℕ → ℕ → Result ℕ Fault
made_answer n room = pick (ltb room n) (Err fault.BeyondBuffers) (Ok n)

unfoldable pub made_filled : ℕ → ℕ → List ℕ → List ℕ
made_filled n seed b = pick (ltb (length b) n) b (sets b 0 (generated seed n))

-- of a line with the text t
unfoldable pub given_answer : Given → List ℕ → ℕ → Result ℕ Fault
given_answer given.Nothing t room = Ok 0
given_answer (given.Word k) t room = hex_answer (word_from t k) room
given_answer (given.Made n seed) t room = made_answer n room

unfoldable pub given_filled : Given → List ℕ → List ℕ → List ℕ
given_filled given.Nothing t b = b
given_filled (given.Word k) t b = hex_filled (word_from t k) b
given_filled (given.Made n seed) t b = made_filled n seed b
