-- An advance is idle, or it runs its course: one test tells which.
use mathlib.Core.Path.{◌≡◌, refl, sym}
use mathlib.Core.Bool.{Bool, true, false, ◌&&◌, not, true≢false}
use mathlib.Core.List.{List}
use Prim.Native.Nat.{ℕ}
use Rattle.lists.specs.Pick.{pick}
use Rattle.state.specs.declared.Unit.{Unit}
use Rattle.std.specs.Prelude.{Ok}
use Rattle.commands.specs.Ends.{still}
use Rattle.commands.specs.declared.plans.Done.TheVariants as answer
use Rattle.advance.specs.Steps.{advanced, advanced_under, attended, step_header}

rests_pick : {A : Type 0} (b c : Bool) (x y z : A) → (b && not c) ≡ true → z ≡ pick b (pick c x z) y
rests_pick true true x y z h = absurd (true≢false (sym h))
rests_pick true false x y z h = refl
rests_pick false c x y z h = absurd (true≢false (sym h))

runs_pick : {A : Type 0} (b c : Bool) (x y z : A) → (b && not c) ≡ false → pick b x y ≡ pick b (pick c x z) y
runs_pick true true x y z h = refl
runs_pick true false x y z h = absurd (true≢false h)
runs_pick false c x y z h = refl

-- no command waits, and there is no attention that the unit may send
abbrev is_idle : Unit → Bool
is_idle u = u.registers.ssr && not (u.attention.pending && u.attention.unit_owns)

module _ (u : Unit) (m s : List ℕ) where
  pub idles : is_idle u ≡ true → still u (Ok answer.Idle) ≡ advanced u m s
  unfolding advanced_under
  idles h = rests_pick u.registers.ssr (u.attention.pending && u.attention.unit_owns) _ _ _ h

  pub runs : is_idle u ≡ false → pick u.registers.ssr (attended u u.attention.release_ie) (step_header u m s) ≡ advanced u m s
  unfolding advanced_under
  runs h = runs_pick u.registers.ssr (u.attention.pending && u.attention.unit_owns) _ _ _ h
