-- `rules N N ..`: the requests of document 02 that a script expects, held to those that the program has built in.
use Rattle.std.specs.Prelude.{Bool, true, false, ◌&&◌, ◌||◌, not, List, ℕ, zero, suc, eqb, Result, Ok, Err}
use Rattle.lists.specs.Pick.{pick}
use Rattle.script.specs.declared.Fault.{Fault}
use Rattle.script.specs.declared.Fault.TheVariants as fault
use Rattle.script.specs.Rules.{own_rules}
use Rattle.lines.specs.declared.Does.TheVariants as does
use Rattle.lines.specs.declared.Line.{Line}
use Rattle.lines.specs.Makes.{number_at, plain_line}
use Rattle.lines.specs.Starts.{has_word}

-- document 02 has so many requests, and a line names no more
abbrev pub requests : ℕ
requests = 14

abbrev pub says : Result ℕ Fault → ℕ → Bool
says (Ok m) n = eqb m n
says (Err f) n = false

-- one of the words 1 to k of the line t says n
unfoldable pub named : List ℕ → ℕ → ℕ → Bool
named t n zero = false
named t n (suc k) = says (number_at t (suc k)) n || named t n k

-- "[1], [3], [12], [13] change no script line and may be missing from or present in either set"
abbrev pub unseen : ℕ → Bool
unseen n = ((eqb n 1 || eqb n 3) || eqb n 12) || eqb n 13

-- a number that the line b names, or that no script shows
unfoldable pub held_by : List ℕ → Result ℕ Fault → Bool
held_by b (Ok n) = unseen n || named b n requests
held_by b (Err f) = false

-- each of the words 1 to k of the line a is one
unfoldable pub within : List ℕ → List ℕ → ℕ → Bool
within a b zero = true
within a b (suc k) = (not (has_word a (suc k)) || held_by b (number_at a (suc k))) && within a b k

-- two lines name the same set
abbrev pub same_rules : List ℕ → List ℕ → Bool
same_rules a b = within a b requests && within b a requests

-- "it takes the line, and says so in one line if it names another set than its own"
unfoldable pub rules_line : List ℕ → Result Line Fault
rules_line t = pick (same_rules t own_rules) (Ok (plain_line does.Nothing)) (Err fault.OtherRules)
