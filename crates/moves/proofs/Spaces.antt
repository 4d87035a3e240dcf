-- One turn of a space: the count has run out, or the turn over what was found says how it goes on.
use mathlib.Core.Bool.{Bool, true, false}
use mathlib.Core.List.{List}
use mathlib.Core.Path.{◌≡◌, refl, sym, ap, ◌∙◌}
use Prim.Native.Nat.{ℕ, zero, suc, ◌+◌, ◌-◌, ◌<◌, ◌≤◌}
use native.Mathlib.Omega.{arith}
use lib.Dec.{eqb}
use Rattle.signals.specs.declared.counts.MarkCount.{MarkCount}
use Rattle.moves.specs.Counting.{how_many}
use Rattle.moves.specs.Seeking.{sought}
use Rattle.moves.specs.Spacing.{mark_turn, mark_turn_by, skip_turn, spaced_from, spaced_from_under, spaced_on, stopped, stuck, turn_after, turn_of}
use Rattle.moves.specs.declared.seeking.Sought.{Sought}
use Rattle.moves.specs.declared.spacing.Count.TheVariants as count-as
use Rattle.moves.specs.declared.spacing.Rule.{Rule}
use Rattle.moves.specs.declared.spacing.Spaced.{Spaced}
use Rattle.moves.specs.declared.spacing.Span.{Span}
use Rattle.moves.specs.declared.spacing.Stop.TheVariants as stop-as
use Rattle.moves.specs.declared.spacing.Stuck.{Stuck}
use Rattle.moves.specs.declared.spacing.Turn.{Turn}
use Rattle.std.specs.Prelude.{Result, Ok, Err}
use Rattle.tape.specs.declared.Damage.{Damage}

pub space_done : (i : ℕ) (s : List ℕ) (r : Rule) (e : ℕ) (x : Span) → e + 1 ≤ i → Ok (stopped stop-as.Count x) ≡ spaced_from (e + 1 - i) s r e x
unfolding spaced_from_under
space_done i s r e x h =
    let z : e + 1 - i ≡ 0 = omega arith in
    rw z

pub space_counted : (turns : ℕ) (s : List ℕ) (r : Rule) (e : ℕ) (x : Span) {none : Bool} → none ≡ eqb (how_many x.left) 0 → none ≡ true → Ok (stopped stop-as.Count x) ≡ spaced_from turns s r e x
unfolding spaced_from_under
space_counted zero s r e x n w = refl
space_counted (suc turns) s r e x n w = rw (← n, w)

pub space_turn : (i : ℕ) (s : List ℕ) (r : Rule) (e : ℕ) (x : Span) {none : Bool} {f : Result Sought Damage} {t : Result Turn Stuck} {y : Result Spaced Stuck} → i < e + 1 → none ≡ eqb (how_many x.left) 0 → none ≡ false
    → f ≡ sought s r.reverse x.position e → t ≡ turn_after r x f → y ≡ spaced_on t (λ z. spaced_from (e + 1 - (i + 1)) s r e z) → y ≡ spaced_from (e + 1 - i) s r e x
unfolding spaced_from_under
space_turn i s r e x h n w f t l =
    let z : e + 1 - i ≡ suc (e + 1 - (i + 1)) = omega arith in
    rw (z, ← n, w, ← f, ← t) l

-- a mark where marks are counted
pub mark_skips : (r : Rule) (x : Span) (q : ℕ) {n : MarkCount} {t : Turn} → x.left ≡ count-as.Marks n → t ≡ skip_turn r x n q → t ≡ mark_turn r x q
unfolding mark_turn mark_turn_by
mark_skips r x q e f = f ∙ ap (λ c. mark_turn_by r x c q) (sym e)

-- what a turn comes to, by what the search found
module _ (r : Rule) (x : Span) {f : Result Sought Damage} where
  pub turn_found : {g : Sought} {t : Turn} → f ≡ Ok g → t ≡ turn_of r x g → Ok t ≡ turn_after r x f
  unfolding turn_after
  turn_found e h = rw (e, h)

  pub turn_fault : {d : Damage} → f ≡ Err d → Err (stuck d x) ≡ turn_after r x f
  unfolding turn_after
  turn_fault e = rw e
