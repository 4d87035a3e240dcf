-- One pass on a well formed reel: nothing is ahead of a bound, or the next object is met whole.
use mathlib.Core.Bool.{Bool, true, false}
use mathlib.Core.List.{List, [], ◌∷◌, ◌++◌, append_assoc, append-nil}
use mathlib.Core.Path.{◌≡◌, refl, sym, ap, ◌∙◌}
use Prim.Native.Nat.{ℕ}
use Rattle.lists.specs.Pick.{pick}
use Rattle.tape.specs.Meeting.{met_as}
use Rattle.tape.specs.Objects.{Holds, Object, blocks_of}
use Rattle.tape.specs.Pass.{passed}
use Rattle.tape.specs.declared.Met.{Met}
use Rattle.tape.specs.declared.Met.TheVariants as met
use Rattle.tape.proofs.Passes.{forward_ends, forward_meets, reverse_ends, reverse_meets}
use Rattle.moves.specs.Between.{Between, Bound}
use Rattle.std.specs.Prelude.{Result, Ok}
use Rattle.tape.specs.declared.Damage.{Damage}

pub data Stepped (os : List Object) (reverse : Bool) (p : ℕ) (m : Result Met Damage) : Type 0 where
  at_last : p ≡ pick reverse 0 (blocks_of os) → m ≡ Ok met.Nothing → Stepped os reverse p m
  past : (o : Object) (q : ℕ) → Between os reverse p q (o ∷ []) → m ≡ met_as o q → Stepped os reverse p m

-- a list is empty or has a last object
data LastOf (l : List Object) : Type 0 where
  no_last : l ≡ [] → LastOf l
  a_last : (front : List Object) (o : Object) → l ≡ front ++ o ∷ [] → LastOf l

last_behind : (o : Object) (l : List Object) → LastOf l → LastOf (o ∷ l)
last_behind o l (no_last e) = a_last [] o (cc)
last_behind o l (a_last front x e) = a_last (o ∷ front) x (cc)

last_of : (l : List Object) → LastOf l
last_of [] = no_last refl
last_of (o ∷ l) = last_behind o l (last_of l)

module _ {s : List ℕ} {e : ℕ} {os : List Object} (h : Holds s e os) where
  steps_forward : (before after : List Object) → os ≡ before ++ after → Stepped os false (blocks_of before) (passed s false (blocks_of before) e)
  steps_forward before [] w =
      let end : blocks_of before ≡ e = ap blocks_of (sym (w ∙ append-nil before)) ∙ h.ends in
      at_last (end ∙ sym h.ends) (rw end (forward_ends s e))
  steps_forward before (o ∷ after) w =
      past o (blocks_of (before ++ o ∷ [])) (record { before = before; after = after; whole = w; from = refl; to = refl }) (forward_meets before o after (rw w at h))

  steps_back : (before after : List Object) → os ≡ before ++ after → LastOf before → Stepped os true (blocks_of before) (passed s true (blocks_of before) e)
  unfolding blocks_of
  steps_back before after w (no_last z) = rw z (at_last refl (reverse_ends s e))
  steps_back before after w (a_last front o z) =
      let w' : os ≡ front ++ (o ∷ after) = w ∙ ap (λ (l : List Object). l ++ after) z ∙ append_assoc front (o ∷ []) after in
      rw z (past o (blocks_of front) (record { before = front; after = after; whole = w'; from = refl; to = refl }) (reverse_meets front o after (rw w' at h)))

  pub steps : (reverse : Bool) {p : ℕ} → Bound os p → Stepped os reverse p (passed s reverse p e)
  steps true b = rw (← b.place) (steps_back b.before b.after b.whole (last_of b.before))
  steps false b = rw (← b.place) (steps_forward b.before b.after b.whole)
