-- The numbers of a script: decimal, or hexadecimal behind 0x.
use Rattle.std.specs.Prelude.{Bool, ◌&&◌, List, [], ◌∷◌, ℕ, ◌+◌, ◌-◌, ◌*◌, eqb, leb, ltb, length, drop, get_or, Option, Some, None, Result, Ok, Err}
use Rattle.lists.specs.Pick.{pick}
use Rattle.script.specs.declared.Fault.{Fault}
use Rattle.script.specs.declared.Fault.TheVariants as fault
use Rattle.script.specs.Words.{word_from}

abbrev pub between : ℕ → ℕ → ℕ → Bool
between a b x = leb a x && leb x b

-- what the byte says as a hexadecimal digit: 0 to 9, A to F, a to f
unfoldable pub digit_of : ℕ → Option ℕ
digit_of x = pick (between 48 57 x) (Some (x - 48)) (pick (between 65 70 x) (Some (x - 55)) (pick (between 97 102 x) (Some (x - 87)) None))

-- a number with one digit more: it has to be a digit of the base, and the number has to fit 64 bits
unfoldable pub joined : ℕ → ℕ → Option ℕ → Result ℕ Fault
joined base v None = Err fault.NumberWrong
joined base v (Some d) =
    pick (ltb d base)
    (pick (leb (v * base + d) 18446744073709551615) (Ok (v * base + d)) (Err fault.NumberTooLarge))
    (Err fault.NumberWrong)

abbrev pub onward : Result ℕ Fault → (ℕ → Result ℕ Fault) → Result ℕ Fault
onward (Ok v) f = f v
onward (Err e) f = Err e

-- what the digits of a text say behind the number v; the first that can't be joined says why it is none
unfoldable pub said : ℕ → ℕ → List ℕ → Result ℕ Fault
said base v [] = Ok v
said base v (x ∷ t) = onward (joined base v (digit_of x)) (λ n. said base n t)

-- three bytes or more of which the first two are 0 and x
unfoldable pub hexed : List ℕ → Bool
hexed t = leb 3 (length t) && (eqb (get_or t 0 0) 48 && eqb (get_or t 1 0) 120)

-- what a word says as a number
unfoldable pub number_in : List ℕ → Result ℕ Fault
number_in t =
    pick (eqb (length t) 0) (Err fault.NumberMissing)
    (pick (hexed t) (said 16 0 (drop 2 t)) (said 10 0 t))

-- word k of a line as a number; 0 beyond the last that is asked for
unfoldable pub wanted_of : List ℕ → ℕ → ℕ → Result ℕ Fault
wanted_of t k last = pick (ltb last k) (Ok 0) (number_in (word_from t k))

-- three numbers; the first that is none says why
unfoldable pub three_of : Result ℕ Fault → Result ℕ Fault → Result ℕ Fault → Result (ℕ × ℕ × ℕ) Fault
three_of (Err e) b c = Err e
three_of (Ok m) (Err e) c = Err e
three_of (Ok m) (Ok n) (Err e) = Err e
three_of (Ok m) (Ok n) (Ok o) = Ok (m, n, o)
