-- What a space did on a well formed reel: the objects that it passed, and that they and the residual make up the count asked.
use mathlib.Core.Bool.{Bool, true, false}
use mathlib.Core.List.{List, [], ◌∷◌, ◌++◌}
use mathlib.Core.Logic.{⊎_elim}
use mathlib.Core.Path.{◌≡◌, refl, ◌∙◌}
use Prim.Native.Nat.{ℕ, suc, ◌+◌, ◌≤◌, ◌<◌}
use native.Mathlib.Omega.{arith}
use Rattle.lists.specs.Pick.{pick}
use Rattle.tape.specs.Objects.{AllAllowed, Holds, Object, gap, mark, record_of}
use Rattle.tape.specs.Pass.{ahead}
use Rattle.tape.proofs.Accepted.{clash}
use Rattle.tape.proofs.Within.{Onward, fewer_ahead}
use Rattle.moves.specs.Between.{Between, Bound, Gaps, count_in, no_gap, one_gap, with_gaps}
use Rattle.moves.specs.Counting.{how_many, of_marks}
use Rattle.moves.specs.Spacing.{came, mark_turn, record_turn, spaced, spaced_under, turn_after, turn_of}
use Rattle.moves.specs.declared.seeking.Sought.{Sought}
use Rattle.moves.specs.declared.seeking.Sought.TheVariants as sought-as
use Rattle.moves.specs.declared.spacing.Rule.{Rule}
use Rattle.moves.specs.declared.spacing.Spaced.{Spaced}
use Rattle.moves.specs.declared.spacing.Span.{Span}
use Rattle.moves.specs.declared.spacing.Stop.TheVariants as stop-as
use Rattle.moves.specs.declared.spacing.Turn.{Turn}
use Rattle.moves.proofs.Bounds.{bound_to, joins, stays}
use Rattle.moves.specs.Finding.{Finds, finds_mark, finds_nothing, finds_record}
use Rattle.moves.proofs.Finds.{ahead_most, finds}
use Rattle.moves.proofs.Counting.{mark_number, mark_stops_number, record_number}
use Rattle.moves.proofs.Rounds.{rounds}
use Rattle.moves.proofs.Turns.{Counts, TurnHas, mark_turns, turn_more, turn_at}
use Rattle.moves.proofs.Within.{SoughtIn, sought_in}
use Rattle.std.specs.Prelude.{Result, Ok, Err, IfOk, IsOkAnd}
use Rattle.tape.specs.declared.Damage.{Damage}
use Rattle.moves.specs.declared.spacing.Stuck.{Stuck}

count_both : (marks : Bool) (xs ys : List Object) → count_in marks (xs ++ ys) ≡ count_in marks xs + count_in marks ys
unfolding count_in
count_both marks [] ys = omega arith
count_both marks (record_of d ∷ xs) ys = omega (arith, count_both marks xs ys)
count_both marks (mark ∷ xs) ys = omega (arith, count_both marks xs ys)
count_both marks (gap ∷ xs) ys = count_both marks xs ys

count_gaps : (marks : Bool) {gaps : List Object} → Gaps gaps → count_in marks gaps ≡ 0
unfolding count_in
count_gaps marks no_gap = refl
count_gaps marks (one_gap g) = count_gaps marks g

-- gaps are not counted, on either side
count_found : (marks reverse : Bool) {gaps : List Object} (o : Object) → Gaps gaps → count_in marks (with_gaps reverse gaps o) ≡ count_in marks (o ∷ [])
count_found marks true {gaps} o g = omega (arith, count_both marks (o ∷ []) gaps, count_gaps marks g)
count_found marks false {gaps} o g = omega (arith, count_both marks gaps (o ∷ []), count_gaps marks g)

-- from the span x to the span y, objects were passed: those counted and what is left make up what was left before
abbrev pub Counted : List Object → Bool → Bool → Span → Span → Type 0
Counted os reverse marks x y = (mid : List Object) × Between os reverse x.position y.position mid × (count_in marks mid + how_many y.left ≡ how_many x.left)

-- what is known of an answer that is no fault, made weaker
ok_more : {P Q : Spaced → Type 0} (z : Result Spaced Stuck) → ((y : Spaced) → P y → Q y) → IsOkAnd z P → IsOkAnd z Q
ok_more (Ok y) f h = f y h
ok_more (Err d) f h = h

came_has : (P : Span → Type 0) (z : Result Spaced Stuck) → IsOkAnd z (λ y. P y.span) → P (came z)
unfolding came
came_has P (Ok y) h = h
came_has P (Err f) h = absurd h

if_ok_more : {P Q : Spaced → Type 0} (z : Result Spaced Stuck) → ((y : Spaced) → P y → Q y) → IfOk z P → IfOk z Q
if_ok_more (Ok y) f h = f y h
if_ok_more (Err d) f h = h

-- each turn does its part, and finds no fault
abbrev Turned : List Object → Bool → Bool → Span → Result Turn Stuck → Type 0
Turned os reverse marks x t = TurnHas (Counted os reverse marks x) (λ z. IsOkAnd z (λ y. Counted os reverse marks x y.span)) t

-- a record counts as one where records are counted, a mark where marks are
one_record : (marks : Bool) (d : List ℕ) → count_in marks (record_of d ∷ []) ≡ pick marks 0 1
unfolding count_in
one_record marks d = omega arith

one_mark : (marks : Bool) → count_in marks (mark ∷ []) ≡ pick marks 1 0
unfolding count_in
one_mark marks = omega arith

module _ {os : List Object} (r : Rule) (y : Span) (some : how_many y.left ≡ 0 → ⊥) where
  mark_done : {gaps : List Object} {q : ℕ} → Gaps gaps → Between os r.reverse y.position q (with_gaps r.reverse gaps mark) → Turned os r.reverse (of_marks y.left) y (Ok (mark_turn r y q))
  mark_done {gaps} {q} g b =
      let one = count_found (of_marks y.left) r.reverse mark g ∙ one_mark (of_marks y.left) in
      mark_turns (λ t. Turned os r.reverse (of_marks y.left) y (Ok t)) r y q
      (λ n e. (with_gaps r.reverse gaps mark, b, omega (arith, one, mark_stops_number n e)))
      (λ n e w. (with_gaps r.reverse gaps mark, b, omega (arith, one, mark_number n e some)))
      (λ n e w. (with_gaps r.reverse gaps mark, b, omega (arith, one, mark_number n e some)))

  turn_done : {f : Result Sought Damage} → Finds os r.reverse y.position f → Turned os r.reverse (of_marks y.left) y (turn_after r y f)
  unfolding turn_after turn_of record_turn
  turn_done (finds_record d {gaps} g b) =
      let one = count_found (of_marks y.left) r.reverse (record_of d) g ∙ one_record (of_marks y.left) d in
      (with_gaps r.reverse gaps (record_of d), b, omega (arith, one, record_number y.left some))
  turn_done (finds_mark g b) = mark_done g b
  turn_done (finds_nothing {gaps = gaps} g b z) = (gaps, b, omega (arith, count_gaps (of_marks y.left) g))

-- one after the other
done_more : {os : List Object} (reverse marks : Bool) → AllAllowed os → (x y z : Span) → Counted os reverse marks x y → Counted os reverse marks y z → Counted os reverse marks x z
done_more true marks h x y z a b = (b.0 ++ a.0, joins true h a.1 b.1, omega (arith, count_both marks b.0 a.0, a.2, b.2))
done_more false marks h x y z a b = (a.0 ++ b.0, joins false h a.1 b.1, omega (arith, count_both marks a.0 b.0, a.2, b.2))

module _ {s : List ℕ} {e : ℕ} {os : List Object} (h : Holds s e os) (r : Rule) (x : Span) where
  abbrev Since : Span → Type 0
  Since y = Counted os r.reverse (of_marks x.left) x y

  turn_on : (y : Span) → Counts (of_marks x.left) y → Since y → (how_many y.left ≡ 0 → ⊥) → Turned os r.reverse (of_marks x.left) x (turn_at s r e y)
  turn_on y k i n =
      let more : (z : Span) → Counted os r.reverse (of_marks x.left) y z → Since z = λ z j. done_more r.reverse (of_marks x.left) h.allowed x y z i j in
      turn_more _ _ _ _ more (λ z j. ok_more z (λ y. more y.span) j) (turn_at s r e y) (rw k at (turn_done r y n (finds h r.reverse (bound_to r.reverse i.1))))

  pub spaced_done : Bound os x.position → IsOkAnd (spaced s r e x) (λ z. Since z.span)
  unfolding spaced_under count_in
  spaced_done b =
      rounds s r e (of_marks x.left) (λ _ y. Since y) (λ z. IsOkAnd z (λ y. Since y.span)) (λ turns y k i n. turn_on y k i n) (λ turns y i w. i)
      (e + 1) x refl ([], stays r.reverse b, omega arith)

  pub spaced_sound : Bound os x.position → (f : Stuck) → spaced s r e x ≡ Err f → ⊥
  spaced_sound b f y = rw y at (spaced_done b)

  -- done and residual make up the count asked
  pub spaced_between : Bound os x.position → (mid : List Object) × Between os r.reverse x.position (came (spaced s r e x)).position mid × (count_in (of_marks x.left) mid + how_many (came (spaced s r e x)).left ≡ how_many x.left)
  spaced_between b = came_has Since (spaced s r e x) (spaced_done b)

  pub spaced_bound : Bound os x.position → IsOkAnd (spaced s r e x) (λ z. Bound os z.span.position)
  spaced_bound b = ok_more (spaced s r e x) (λ z i. bound_to r.reverse i.1) (spaced_done b)

-- a turn that goes on passes a block or more, and one that is over says another reason than the count
abbrev Onwards : Rule → ℕ → Span → Result Turn Stuck → Type 0
Onwards r e y t = TurnHas (λ z. Onward r.reverse y.position e z.position) (λ z. IfOk z (λ y. y.stop ≡ stop-as.Count → ⊥)) t

turn_moves : (r : Rule) (e : ℕ) (y : Span) (f : Result Sought Damage) → SoughtIn r.reverse y.position e f → Onwards r e y (turn_after r y f)
unfolding turn_after turn_of record_turn
turn_moves r e y (Ok (sought-as.Record n q)) i = i.1
turn_moves r e y (Ok (sought-as.Mark q)) i = mark_turns (λ t. Onwards r e y (Ok t)) r y q (λ n c z. clash (cc)) (λ n c w z. clash (cc)) (λ n c w. i)
turn_moves r e y (Ok (sought-as.Nothing q)) i = λ z. clash (cc)
turn_moves r e y (Err d) i = tt

-- so that the turns never run out before the count does
module _ (s : List ℕ) (r : Rule) (e : ℕ) where
  abbrev Enough : ℕ → Span → Type 0
  Enough turns y = (y.position ≤ e) × (ahead r.reverse y.position e < turns)

  turn_enough : (turns : ℕ) (y : Span) → Enough (suc turns) y → TurnHas (Enough turns) (λ z. IfOk z (λ y. y.stop ≡ stop-as.Count → how_many y.span.left ≡ 0)) (turn_at s r e y)
  turn_enough turns y i =
      turn_more _ _ _ _ (λ z o. (o.below, omega (arith, i.1, fewer_ahead r.reverse y.position e z.position i.0 o))) (λ z n. if_ok_more {P = λ y. y.stop ≡ stop-as.Count → ⊥} {Q = λ y. y.stop ≡ stop-as.Count → how_many y.span.left ≡ 0} z (λ y f k. absurd (f k)) n) (turn_at s r e y)
      (turn_moves r e y _ (sought_in s r.reverse y.position e i.0))

  pub spaced_why : (x : Span) → x.position ≤ e → IfOk (spaced s r e x) (λ z. z.stop ≡ stop-as.Count → how_many z.span.left ≡ 0)
  unfolding spaced_under
  spaced_why x h =
      rounds s r e (of_marks x.left) Enough (λ z. IfOk z (λ y. y.stop ≡ stop-as.Count → how_many y.span.left ≡ 0)) (λ turns y k i n. turn_enough turns y i) (λ turns y i w k. ⊎_elim (λ z. absurd (omega arith)) (λ z. z) w)
      (e + 1) x refl (h, omega (arith, ahead_most r.reverse x.position e h))
