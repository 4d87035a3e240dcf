-- What a line of a script comes to, with no comment, while the build cursor is at a block.
use Rattle.std.specs.Prelude.{List, ℕ, Result, Ok, Err}
use Rattle.lists.specs.Pick.{pick}
use Rattle.script.specs.declared.Fault.{Fault}
use Rattle.script.specs.declared.Fault.TheVariants as fault
use Rattle.lines.specs.declared.Arrange.TheVariants as arrange
use Rattle.lines.specs.declared.Ask.TheVariants as ask
use Rattle.lines.specs.declared.Build.TheVariants as build
use Rattle.lines.specs.declared.Call.TheVariants as call
use Rattle.lines.specs.declared.Does.TheVariants as does
use Rattle.lines.specs.declared.Given.TheVariants as given
use Rattle.lines.specs.declared.Line.{Line}
use Rattle.lines.specs.declared.verbs.Verb.{Verb}
use Rattle.lines.specs.declared.verbs.Verb.TheVariants as verb
use Rattle.lines.specs.Makes.{arranges_line, asks_line, builds_line, calls_line, on_value, plain_line}
use Rattle.lines.specs.Starts.{has_word, most_words, start_of}
use Rattle.lines.specs.Arranging.{lens_line, set_line, sizes_line}
use Rattle.lines.specs.Building.{made_line, poke_line, poke_reel_line, record_line, sum_line, word_line}
use Rattle.lines.specs.Calling.{host_line, hostn_line, mount_line, op_line, reg_line, tsdb_line, tssr_line}
use Rattle.lines.specs.Rules.{rules_line}
use Rattle.lines.specs.Tabling.{index_line, poke_table_line}

-- by its first word
unfoldable pub line_by : List ℕ → Verb → ℕ → Result Line Fault
line_by t verb.Case cursor = Ok (arranges_line arrange.Case)
line_by t verb.Sizes cursor = sizes_line t
line_by t verb.Lens cursor = lens_line t
line_by t verb.Set cursor = set_line t
line_by t verb.Poke cursor = poke_line t
line_by t verb.Word cursor = word_line t
line_by t verb.PokeReel cursor = poke_reel_line t
line_by t verb.FixSum cursor = sum_line t
line_by t verb.Record cursor = record_line t
line_by t verb.Made cursor = made_line t
line_by t verb.Mark cursor = Ok (builds_line build.Mark given.Nothing)
line_by t verb.Gap cursor = Ok (builds_line build.Gap given.Nothing)
line_by t verb.Mount cursor = mount_line t cursor
line_by t verb.Tsdb cursor = tsdb_line t
line_by t verb.Tssr cursor = tssr_line t
line_by t verb.Reg cursor = reg_line t
line_by t verb.Op cursor = op_line t
line_by t verb.Host cursor = host_line t
line_by t verb.HostMade cursor = hostn_line t
line_by t verb.Advance cursor = Ok (asks_line ask.Advance given.Nothing)
line_by t verb.Back cursor = Ok (calls_line call.StepBack given.Nothing)
line_by t verb.Rules cursor = rules_line t
line_by t verb.Index cursor = index_line t
line_by t verb.PokeTable cursor = poke_table_line t

-- a line that starts with a verb
unfoldable pub line_from : List ℕ → Verb → ℕ → Result Line Fault
line_from t v cursor = pick (has_word t (most_words v)) (Err fault.ExtraWord) (line_by t v cursor)

-- a blank line does nothing
unfoldable pub line_of : List ℕ → ℕ → Result Line Fault
line_of t cursor = pick (has_word t 0) (on_value (start_of t) (λ v. line_from t v cursor)) (Ok (plain_line does.Nothing))
