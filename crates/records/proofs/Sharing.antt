-- What is shared and its three numbers are one another's.
use mathlib.Core.Path.{◌≡◌, sym, ap, ◌∙◌}
use mathlib.Core.List.{List, [], ◌∷◌}
use Prim.Native.Nat.{ℕ, ◌<◌}
use lib.ListN.{length}
use Rattle.lists.specs.Fours.{number_limit}
use Rattle.entries.specs.Numbers.{nth}
use Rattle.worlds.specs.declared.Coupler.{Coupler}
use Rattle.records.specs.Shares.{SmallCoupler, coupler_in, shares_of}
use Rattle.entries.proofs.Back.{low}
use Rattle.entries.proofs.Own.{all_elements, elements}

pub coupler_back : (c : Coupler) → SmallCoupler c → coupler_in (shares_of c) ≡ c
unfolding coupler_in shares_of
coupler_back c h = rw (low _ h.used, low _ h.memory, low _ h.journal)

pub small_shared : (n : List ℕ) → ((i : ℕ) → nth n i < number_limit) → SmallCoupler (coupler_in n)
unfolding coupler_in
small_shared n s = record { used = s 0; memory = s 1; journal = s 2 }

module _ (n : List ℕ) (small : (i : ℕ) → nth n i < number_limit) where
  each_own : shares_of (coupler_in n) ≡ elements (nth n) 0 3
  unfolding coupler_in shares_of
  each_own = λ i. low (nth n 0) (small 0) i ∷ low (nth n 1) (small 1) i ∷ low (nth n 2) (small 2) i ∷ []

  pub shares_own : length n ≡ 3 → shares_of (coupler_in n) ≡ n
  shares_own long = each_own ∙ ap (elements (nth n) 0) (sym long) ∙ all_elements n
