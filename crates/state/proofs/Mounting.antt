-- "Mount .. sets position 0 and the rest as an initialize does." (01, Calls)
use mathlib.Core.Bool.{Bool, true, false}
use mathlib.Core.Path.{◌≡◌, refl}
use Prim.Native.Nat.{ℕ}
use Rattle.lists.specs.Pick.{pick}
use Rattle.state.specs.Changes.{initialized, mounted_as}
use Rattle.state.specs.declared.Unit.{Unit}

-- on line or off, the position is 0
either_way : (b : Bool) (n : ℕ) → pick b n n ≡ n
either_way true n = refl
either_way false n = refl

-- a mounted state is the initialized one of any state with that end, those switches and lengths that stands at position 0
pub mounted_initialized : (u : Unit) → u.tape.position ≡ 0 → mounted_as u.tape.end u.panel.online u.panel.locked u.lengths ≡ initialized u
unfolding mounted_as initialized
mounted_initialized u h = rw (h, either_way u.panel.online 0)
