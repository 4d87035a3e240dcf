-- 65,536 is 1 modulo 65,535: two words may be added as one number of four bytes.
use Rattle.std.specs.Prelude.{List, [], ◌∷◌, ℕ, ◌+◌, ◌*◌}

-- the sum of the numbers of four bytes of a list; what is left over does not count
unfoldable pub long_sum : List ℕ → ℕ
long_sum [] = 0
long_sum (a ∷ []) = 0
long_sum (a ∷ (b ∷ [])) = 0
long_sum (a ∷ (b ∷ (c ∷ []))) = 0
long_sum (a ∷ (b ∷ (c ∷ (d ∷ r)))) = a + 256 * b + 65536 * (c + 256 * d) + long_sum r
