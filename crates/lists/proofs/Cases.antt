-- By cases on a test whose outcome each case is told.
use mathlib.Core.Path.{◌≡◌, refl}
use mathlib.Core.Bool.{Bool, true, false}
use Rattle.lists.specs.Pick.{pick}

pub by_test : {P : Type 0} (t : Bool) → (t ≡ true → P) → (t ≡ false → P) → P
by_test true f g = f refl
by_test false f g = g refl

pub pick_told : {A : Type 0} (P : A → Type 0) (t : Bool) (a o : A) → (t ≡ true → P a) → (t ≡ false → P o) → P (pick t a o)
pick_told P true a o f g = f refl
pick_told P false a o f g = g refl

-- a choice that came to r, where its first way is another
pub past : {A : Type 0} (t : Bool) (a o r : A) → (a ≡ r → ⊥) → pick t a o ≡ r → (t ≡ false) × (o ≡ r)
past true a o r f e = absurd (f e)
past false a o r f e = (refl, e)
