-- Where a search and a space lead, by their numbers alone: never past the end, and the count never grows.
use mathlib.Core.Bool.{Bool, true, false}
use mathlib.Core.List.{List}
use mathlib.Core.Path.{◌≡◌, refl, ap}
use Prim.Native.Nat.{ℕ, zero, suc, ◌+◌, ◌≤◌}
use native.Mathlib.Omega.{arith}
use Rattle.lists.specs.Pick.{Always}
use Rattle.tape.specs.Pass.{passed}
use Rattle.tape.specs.declared.Met.{Met}
use Rattle.tape.specs.declared.Met.TheVariants as met
use Rattle.tape.proofs.Within.{Onward, PassIn, RecordIn, onward_more, pass_in}
use Rattle.moves.specs.Counting.{how_many, of_marks}
use Rattle.moves.specs.Seeking.{sought, sought_under, sought_from, sought_from_under, sought_on}
use Rattle.moves.specs.Spacing.{came, record_turn, spaced, turn_after, turn_of}
use Rattle.moves.specs.declared.seeking.Sought.{Sought}
use Rattle.moves.specs.declared.seeking.Sought.TheVariants as sought-as
use Rattle.moves.specs.declared.spacing.Rule.{Rule}
use Rattle.moves.specs.declared.spacing.Span.{Span}
use Rattle.moves.proofs.Counting.{record_number}
use Rattle.moves.proofs.Rounds.{spaced_keeps}
use Rattle.moves.proofs.Turns.{Counts, SpanHas, mark_turns, sound_has, turn_kind}
use Rattle.std.specs.Prelude.{Result, Ok, Err}
use Rattle.tape.specs.declared.Damage.{Damage}

-- what is known of each answer of a search
abbrev pub SoughtIn : Bool → ℕ → ℕ → Result Sought Damage → Type 0
SoughtIn reverse p e (Ok (sought-as.Record n q)) = RecordIn reverse e n q × Onward reverse p e q
SoughtIn reverse p e (Ok (sought-as.Mark q)) = Onward reverse p e q
SoughtIn reverse p e (Ok (sought-as.Nothing q)) = q ≤ e
SoughtIn reverse p e (Err d) = Always

-- from further back the same is known
from_before : {reverse : Bool} {p e q : ℕ} (f : Result Sought Damage) → Onward reverse p e q → SoughtIn reverse q e f → SoughtIn reverse p e f
from_before (Ok (sought-as.Record n t)) o h = (h.0, onward_more o h.1)
from_before (Ok (sought-as.Mark t)) o h = onward_more o h
from_before (Ok (sought-as.Nothing t)) o h = h
from_before (Err d) o h = tt

on_in : (reverse : Bool) (p e : ℕ) (m : Result Met Damage) (onward : ℕ → Result Sought Damage) → p ≤ e → PassIn reverse p e m → ((q : ℕ) → q ≤ e → SoughtIn reverse q e (onward q)) → SoughtIn reverse p e (sought_on m p onward)
unfolding sought_on
on_in reverse p e (Ok (met.Record n q)) onward h i on = i
on_in reverse p e (Ok (met.Mark q)) onward h i on = i
on_in reverse p e (Ok (met.Gap q)) onward h i on = from_before (onward q) i (on q i.below)
on_in reverse p e (Ok met.Nothing) onward h i on = h
on_in reverse p e (Err d) onward h i on = tt

from_in : (turns : ℕ) (s : List ℕ) (reverse : Bool) (p e : ℕ) → p ≤ e → SoughtIn reverse p e (sought_from turns s reverse p e)
unfolding sought_from_under
from_in zero s reverse p e h = h
from_in (suc turns) s reverse p e h = on_in reverse p e (passed s reverse p e) (λ q. sought_from turns s reverse q e) h (pass_in s reverse p e h) (λ q k. from_in turns s reverse q e k)

module _ (s : List ℕ) (reverse : Bool) (p e : ℕ) (h : p ≤ e) where
  pub sought_in : SoughtIn reverse p e (sought s reverse p e)
  unfolding sought_under
  sought_in = from_in e s reverse p e h

  pub sought_record : {n q : ℕ} → sought s reverse p e ≡ Ok (sought-as.Record n q) → RecordIn reverse e n q
  sought_record y = (rw y at sought_in).0

  -- a block or more further, and so not at the end that it came from
  pub sought_mark : {q : ℕ} → sought s reverse p e ≡ Ok (sought-as.Mark q) → (q ≤ e) × (reverse ≡ false → 1 ≤ q) × (reverse ≡ true → q + 1 ≤ e)
  sought_mark y =
      let o = rw y at sought_in in
      (o.below, λ z. omega (arith, o.up z), λ z. omega (arith, o.down z))

  pub sought_nothing : {q : ℕ} → sought s reverse p e ≡ Ok (sought-as.Nothing q) → q ≤ e
  sought_nothing y = rw y at sought_in

abbrev Below : ℕ → Span → Type 0
Below e y = y.position ≤ e

-- a turn leads to what the search found, or stays
turn_below : (r : Rule) (e : ℕ) (y : Span) (f : Result Sought Damage) → Below e y → SoughtIn r.reverse y.position e f → SpanHas (Below e) (turn_after r y f)
unfolding came turn_after turn_of record_turn
turn_below r e y (Ok (sought-as.Record n q)) h i = i.0.below
turn_below r e y (Ok (sought-as.Mark q)) h i = mark_turns (λ t. SpanHas (Below e) (Ok t)) r y q (λ n c. i.below) (λ n c w. i.below) (λ n c w. i.below)
turn_below r e y (Ok (sought-as.Nothing q)) h i = i
turn_below r e y (Err d) h i = h

pub spaced_within : (s : List ℕ) (r : Rule) (e : ℕ) (x : Span) → x.position ≤ e → (came (spaced s r e x)).position ≤ e
spaced_within s r e x h = spaced_keeps s r e (Below e) x (λ y k i n. sound_has (Below e) _ (turn_below r e y _ i (sought_in s r.reverse y.position e i))) h

abbrev Fewer : ℕ → Span → Type 0
Fewer n y = how_many y.left ≤ n

turn_fewer : (r : Rule) (n : ℕ) (y : Span) (f : Result Sought Damage) → (how_many y.left ≡ 0 → ⊥) → Fewer n y → SpanHas (Fewer n) (turn_after r y f)
unfolding came turn_after turn_of record_turn
turn_fewer r n y (Ok (sought-as.Record m q)) some h = omega (arith, record_number y.left some)
turn_fewer r n y (Ok (sought-as.Mark q)) some h =
    mark_turns (λ t. SpanHas (Fewer n) (Ok t)) r y q (λ k c. omega (arith, ap how_many c)) (λ k c w. omega (arith, ap how_many c)) (λ k c w. omega (arith, ap how_many c))
turn_fewer r n y (Ok (sought-as.Nothing q)) some h = h
turn_fewer r n y (Err d) some h = h

pub spaced_left : (s : List ℕ) (r : Rule) (e : ℕ) (x : Span) → how_many (came (spaced s r e x)).left ≤ how_many x.left
spaced_left s r e x = spaced_keeps s r e (Fewer (how_many x.left)) x (λ y k i some. sound_has (Fewer (how_many x.left)) _ (turn_fewer r (how_many x.left) y _ some i)) (omega arith)

-- what is left is of what was asked
pub spaced_kind : (s : List ℕ) (r : Rule) (e : ℕ) (x : Span) → of_marks (came (spaced s r e x)).left ≡ of_marks x.left
spaced_kind s r e x = spaced_keeps s r e (Counts (of_marks x.left)) x (λ y k i some. sound_has (Counts (of_marks x.left)) _ (turn_kind (of_marks x.left) r y _ k)) refl
