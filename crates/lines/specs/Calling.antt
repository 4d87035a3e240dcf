-- Call lines: what each comes to.
use Rattle.std.specs.Prelude.{not, List, [], ◌∷◌, ℕ, eqb, ltb, bytes_eq, Result, Ok, Err}
use Rattle.lists.specs.Pick.{pick}
use Rattle.script.specs.declared.Fault.{Fault}
use Rattle.script.specs.declared.Fault.TheVariants as fault
use Rattle.script.specs.Words.{place_of, word_from}
use Rattle.state.specs.declared.act.Act.{Act}
use Rattle.state.specs.declared.act.Act.TheVariants as act
use Rattle.lines.specs.declared.Ask.TheVariants as ask
use Rattle.lines.specs.declared.Call.{Call}
use Rattle.lines.specs.declared.Call.TheVariants as call
use Rattle.lines.specs.declared.Given.TheVariants as given
use Rattle.lines.specs.declared.Line.{Line}
use Rattle.lines.specs.Makes.{asks_line, calls_line, number_at, numbers_at, on_value, on_numbers}
use Rattle.lines.specs.Starts.{named_in}

-- "cursor"
abbrev pub cursor_word : List ℕ
cursor_word = 99 ∷ 117 ∷ 114 ∷ 115 ∷ 111 ∷ 114 ∷ []

-- END of a mount: the build cursor, or a number
unfoldable pub end_of : List ℕ → ℕ → Result ℕ Fault
end_of t cursor = pick (bytes_eq (word_from t 1) cursor_word) (Ok cursor) (number_at t 1)

-- `mount END ONLINE LOCK`: any number but 0 turns a switch on
unfoldable pub mount_line : List ℕ → ℕ → Result Line Fault
mount_line t cursor =
    on_value (end_of t cursor) (λ e. on_numbers (numbers_at t 2 3) (λ online locked x. Ok (calls_line (call.Mount e (not (eqb online 0)) (not (eqb locked 0))) given.Nothing)))

-- `tsdb WORD`: 16 bits
unfoldable pub tsdb_line : List ℕ → Result Line Fault
tsdb_line t = on_value (number_at t 1) (λ w. pick (ltb 65535 w) (Err fault.NumberTooLarge) (Ok (asks_line (ask.WriteTsdb w) given.Nothing)))

-- `tssr WORD`: any number
unfoldable pub tssr_line : List ℕ → Result Line Fault
tssr_line t = on_value (number_at t 1) (λ w. Ok (asks_line ask.WriteTssr given.Nothing))

-- "tsba tssr"
abbrev pub register_words : List ℕ
register_words = 116 ∷ 115 ∷ 98 ∷ 97 ∷ 32 ∷ 116 ∷ 115 ∷ 115 ∷ 114 ∷ []

-- the calls in that order
abbrev pub registers : List Call
registers = call.ReadTsba ∷ call.ReadTssr ∷ []

-- `reg tsba` and `reg tssr`
unfoldable pub reg_line : List ℕ → Result Line Fault
reg_line t = on_value (named_in registers (place_of register_words (word_from t 1))) (λ c. Ok (calls_line c given.Nothing))

-- "on off lock unlock"
abbrev pub act_words : List ℕ
act_words = 111 ∷ 110 ∷ 32 ∷ 111 ∷ 102 ∷ 102 ∷ 32 ∷ 108 ∷ 111 ∷ 99 ∷ 107 ∷ 32 ∷ 117 ∷ 110 ∷ 108 ∷ 111 ∷ 99 ∷ 107 ∷ []

-- the acts in that order
abbrev pub acts : List Act
acts = act.OnLine ∷ act.OffLine ∷ act.Lock ∷ act.Unlock ∷ []

-- `op on|off|lock|unlock`
unfoldable pub op_line : List ℕ → Result Line Fault
op_line t = on_value (named_in acts (place_of act_words (word_from t 1))) (λ a. Ok (asks_line (ask.Operate a) given.Nothing))

-- `host ADDR HEX`: word 2 gives the bytes
unfoldable pub host_line : List ℕ → Result Line Fault
host_line t = on_value (number_at t 1) (λ at. Ok (asks_line (ask.HostStore at) (given.Word 2)))

-- `hostn ADDR LEN SEED`
unfoldable pub hostn_line : List ℕ → Result Line Fault
hostn_line t = on_numbers (numbers_at t 1 3) (λ at n seed. Ok (asks_line (ask.HostStore at) (given.Made n seed)))
