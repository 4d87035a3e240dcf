-- The requests of document 02 that the program has built in, as the line of a script that names them.
use Rattle.std.specs.Prelude.{List, [], ◌∷◌, ℕ}

-- "rules 2 4 7 8"
unfoldable pub own_rules : List ℕ
own_rules = 114 ∷ 117 ∷ 108 ∷ 101 ∷ 115 ∷ 32 ∷ 50 ∷ 32 ∷ 52 ∷ 32 ∷ 55 ∷ 32 ∷ 56 ∷ []
