-- Lines that put bytes into memory or reel with no call: what each comes to.
use Rattle.std.specs.Prelude.{List, ℕ, Result, Ok, Err}
use Rattle.lists.specs.Pick.{pick}
use Rattle.script.specs.declared.Fault.{Fault}
use Rattle.script.specs.declared.Fault.TheVariants as fault
use Rattle.lines.specs.declared.Build.TheVariants as build
use Rattle.lines.specs.declared.Given.TheVariants as given
use Rattle.lines.specs.declared.Line.{Line}
use Rattle.lines.specs.Makes.{builds_line, number_at, numbers_at, on_value, on_numbers}
use Rattle.lines.specs.Starts.{has_word}

-- `poke ADDR HEX`, and of the reel `pokereel OFFSET HEX`: word 2 gives the bytes
unfoldable pub poke_line : List ℕ → Result Line Fault
poke_line t = on_value (number_at t 1) (λ at. Ok (builds_line (build.Poke at) (given.Word 2)))

unfoldable pub poke_reel_line : List ℕ → Result Line Fault
poke_reel_line t = on_value (number_at t 1) (λ at. Ok (builds_line (build.PokeReel at) (given.Word 2)))

-- `word ADDR VALUE`
unfoldable pub word_line : List ℕ → Result Line Fault
word_line t = on_numbers (numbers_at t 1 2) (λ at w x. Ok (builds_line (build.PokeWord at w) given.Nothing))

-- `fixsum BLOCK`
unfoldable pub sum_line : List ℕ → Result Line Fault
sum_line t = on_value (number_at t 1) (λ k. Ok (builds_line (build.FixSum k) given.Nothing))

-- `R HEX`: word 1 gives the bytes, and has to be there
unfoldable pub record_line : List ℕ → Result Line Fault
record_line t = pick (has_word t 1) (Ok (builds_line build.Record (given.Word 1))) (Err fault.WordMissing)

-- `RN LEN SEED`
unfoldable pub made_line : List ℕ → Result Line Fault
made_line t = on_numbers (numbers_at t 1 2) (λ n seed x. Ok (builds_line build.Record (given.Made n seed)))
