-- What the units share, as three numbers of four bytes: "memory and journal are shared" (02, [9]).
use Rattle.std.specs.Prelude.{List, [], ◌∷◌, ℕ, ◌%◌, ◌<◌}
use Rattle.lists.specs.Fours.{number_limit}
use Rattle.entries.specs.Numbers.{nth}
use Rattle.worlds.specs.declared.Coupler.{Coupler}

unfoldable pub shares_of : Coupler → List ℕ
shares_of c = c.used % number_limit ∷ c.memory % number_limit ∷ c.journal % number_limit ∷ []

unfoldable pub coupler_in : List ℕ → Coupler
coupler_in n = record { used = nth n 0; memory = nth n 1; journal = nth n 2 }

pub record SmallCoupler (c : Coupler) : Type 0 where
  pub used : c.used < number_limit
  pub memory : c.memory < number_limit
  pub journal : c.journal < number_limit
