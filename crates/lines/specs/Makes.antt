-- A line made of what it does and the bytes that it gives, or the first of its words that can't be read as the number it has to be.
use Rattle.std.specs.Prelude.{List, ℕ, ◌+◌, Result, Ok, Err}
use Rattle.script.specs.declared.Fault.{Fault}
use Rattle.script.specs.Words.{word_from}
use Rattle.script.specs.Numbers.{number_in, three_of, wanted_of}
use Rattle.lines.specs.declared.Arrange.{Arrange}
use Rattle.lines.specs.declared.Build.{Build}
use Rattle.lines.specs.declared.Table.{Table}
use Rattle.lines.specs.declared.Ask.{Ask}
use Rattle.lines.specs.declared.Call.{Call}
use Rattle.lines.specs.declared.Call.TheVariants as call
use Rattle.lines.specs.declared.Does.{Does}
use Rattle.lines.specs.declared.Does.TheVariants as does
use Rattle.lines.specs.declared.Given.{Given}
use Rattle.lines.specs.declared.Given.TheVariants as given
use Rattle.lines.specs.declared.Line.{Line}

-- a line that gives bytes, and one that gives none
abbrev pub giving_line : Does → Given → Line
giving_line d g = record { does = d; given = g }

abbrev pub plain_line : Does → Line
plain_line d = giving_line d given.Nothing

abbrev pub arranges_line : Arrange → Line
arranges_line a = plain_line (does.Arranges a)

abbrev pub builds_line : Build → Given → Line
builds_line b g = giving_line (does.Builds b) g

abbrev pub tables_line : Table → Given → Line
tables_line t g = giving_line (does.Tables t) g

abbrev pub calls_line : Call → Given → Line
calls_line c g = giving_line (does.Calls c) g

abbrev pub asks_line : Ask → Given → Line
asks_line a g = calls_line (call.Step a) g

-- word k of a line as a number
abbrev pub number_at : List ℕ → ℕ → Result ℕ Fault
number_at t k = number_in (word_from t k)

-- what was read, and the line that it makes
abbrev pub on_value : {T : Type 0} → Result T Fault → (T → Result Line Fault) → Result Line Fault
on_value (Ok n) f = f n
on_value (Err e) f = Err e

-- words `first` to `last`, three at most, as numbers; what lies beyond the last is 0
abbrev pub numbers_at : List ℕ → ℕ → ℕ → Result (ℕ × ℕ × ℕ) Fault
numbers_at t first last = three_of (wanted_of t first last) (wanted_of t (first + 1) last) (wanted_of t (first + 2) last)

abbrev pub on_numbers : Result (ℕ × ℕ × ℕ) Fault → (ℕ → ℕ → ℕ → Result Line Fault) → Result Line Fault
on_numbers (Ok (a, b, c)) f = f a b c
on_numbers (Err e) f = Err e
