-- Words, numbers and check sums worked out.
use mathlib.Core.Path.{◌≡◌, refl}
use mathlib.Core.List.{[], ◌∷◌}
use Rattle.script.specs.declared.Fault.TheVariants as fault
use Rattle.std.specs.Prelude.{Some, Ok, Err}
use Rattle.script.specs.Words.{last_end, over, spanned, place_from, place_of, word_end, word_from, word_start}
use Rattle.script.specs.Numbers.{digit_of, hexed, joined, number_in, said}
use Rattle.script.specs.Fills.{generated, paired, pairs}
use Rattle.script.specs.Spelling.{places_from, spelling}
use Rattle.script.specs.Sums.{crc32, step, steps, summed}

-- "ab  cd " has the words ab and cd, and is over at 6
second : word_from (97 ∷ 98 ∷ 32 ∷ 9 ∷ 99 ∷ 100 ∷ 32 ∷ []) 1 ≡ 99 ∷ 100 ∷ []
unfolding word_from word_start word_end over spanned
second = refl

last_over : last_end (97 ∷ 98 ∷ 32 ∷ 9 ∷ 99 ∷ 100 ∷ 32 ∷ []) ≡ 6
unfolding last_end
last_over = refl

which : place_of (97 ∷ 98 ∷ 32 ∷ 9 ∷ 99 ∷ 100 ∷ 32 ∷ []) (99 ∷ 100 ∷ []) ≡ Some 1
unfolding place_from word_from word_start word_end over spanned
which = refl

-- 207, 0x1Fe, 12a, 0x and the least number that does not fit
decimal : number_in (50 ∷ 48 ∷ 55 ∷ []) ≡ Ok 207
unfolding number_in hexed said joined digit_of
decimal = refl

hexadecimal : number_in (48 ∷ 120 ∷ 49 ∷ 70 ∷ 101 ∷ []) ≡ Ok 510
unfolding number_in hexed said joined digit_of
hexadecimal = refl

no_digit : number_in (49 ∷ 50 ∷ 97 ∷ []) ≡ Err fault.NumberWrong
unfolding number_in hexed said joined digit_of
no_digit = refl

no_digits : number_in (48 ∷ 120 ∷ []) ≡ Err fault.NumberWrong
unfolding number_in hexed said joined digit_of
no_digits = refl

too_large : number_in (49 ∷ 56 ∷ 52 ∷ 52 ∷ 54 ∷ 55 ∷ 52 ∷ 52 ∷ 48 ∷ 55 ∷ 51 ∷ 55 ∷ 48 ∷ 57 ∷ 53 ∷ 53 ∷ 49 ∷ 54 ∷ 49 ∷ 54 ∷ []) ≡ Err fault.NumberTooLarge
unfolding number_in hexed said joined digit_of
too_large = refl

-- the bytes of a seed, and of the digits 0fA9g0
seeded : generated 250 3 ≡ 250 ∷ 1 ∷ 8 ∷ []
unfolding generated
seeded = refl

in_pairs : pairs (48 ∷ 102 ∷ 65 ∷ 57 ∷ 103 ∷ 48 ∷ []) ≡ 15 ∷ 169 ∷ []
unfolding pairs paired digit_of
in_pairs = refl

-- the check sum of "123456789"
check : crc32 (49 ∷ 50 ∷ 51 ∷ 52 ∷ 53 ∷ 54 ∷ 55 ∷ 56 ∷ 57 ∷ []) ≡ 3421780262
unfolding crc32 summed steps step
check = refl

-- 0 and 207 in decimal, and 510 in hexadecimal with at least four digits
spelt_none : spelling 10 1 0 ≡ 48 ∷ []
unfolding spelling places_from
spelt_none = refl

spelt_decimal : spelling 10 1 207 ≡ 50 ∷ 48 ∷ 55 ∷ []
unfolding spelling places_from
spelt_decimal = refl

spelt_hexadecimal : spelling 16 4 510 ≡ 48 ∷ 49 ∷ 102 ∷ 101 ∷ []
unfolding spelling places_from
spelt_hexadecimal = refl
