-- One turn of a space: what is said of it, the cases of a mark, and that it goes on counting what it counted.
use mathlib.Core.Bool.{Bool, true, false, ◌&&◌}
use mathlib.Core.List.{List}
use mathlib.Core.Path.{◌≡◌, refl, sym, ap, ◌∙◌}
use Prim.Native.Nat.{ℕ, ◌-◌}
use Rattle.lists.specs.Pick.{pick}
use Rattle.signals.specs.declared.counts.MarkCount.{MarkCount}
use Rattle.signals.specs.declared.counts.RecordCount.{RecordCount}
use Rattle.moves.specs.Counting.{marks, of_marks}
use Rattle.moves.specs.Seeking.{sought}
use Rattle.moves.specs.Spacing.{came, mark_turn, mark_turn_by, record_turn, skip_turn, span, stopped, turn_after, turn_of}
use Rattle.moves.specs.declared.seeking.Sought.{Sought}
use Rattle.moves.specs.declared.seeking.Sought.TheVariants as sought-as
use Rattle.moves.specs.declared.spacing.Count.{Count}
use Rattle.moves.specs.declared.spacing.Count.TheVariants as count-as
use Rattle.moves.specs.declared.spacing.Rule.{Rule}
use Rattle.moves.specs.declared.spacing.Spaced.{Spaced}
use Rattle.moves.specs.declared.spacing.Span.{Span}
use Rattle.moves.specs.declared.spacing.Stop.TheVariants as stop-as
use Rattle.moves.specs.declared.spacing.Turn.{Turn}
use Rattle.moves.specs.declared.spacing.Turn.TheVariants as turn-as
use Rattle.moves.proofs.Counting.{record_kind}
use Rattle.std.specs.Prelude.{Result, Ok, Err, IfOk}
use Rattle.tape.specs.declared.Damage.{Damage}
use Rattle.moves.specs.declared.spacing.Stuck.{Stuck}

-- the turn that a space makes from y
abbrev pub turn_at : List ℕ → Rule → ℕ → Span → Result Turn Stuck
turn_at s r e y = turn_after r y (sought s r.reverse y.position e)

-- one thing of a turn that goes on, and one of what the last comes to
abbrev pub TurnHas : (Span → Type 0) → (Result Spaced Stuck → Type 0) → Result Turn Stuck → Type 0
TurnHas P Q (Ok (turn-as.On y)) = P y
TurnHas P Q (Ok (turn-as.Over z)) = Q (Ok z)
TurnHas P Q (Err f) = Q (Err f)

-- one thing of the span either way
abbrev pub SpanHas : (Span → Type 0) → Result Turn Stuck → Type 0
SpanHas P t = TurnHas P (λ z. P (came z)) t

-- and of a turn that met no block at fault
abbrev pub SoundHas : (Span → Type 0) → Result Turn Stuck → Type 0
SoundHas P t = TurnHas P (λ z. IfOk z (λ y. P y.span)) t

pub sound_has : (P : Span → Type 0) (t : Result Turn Stuck) → SpanHas P t → SoundHas P t
unfolding came
sound_has P (Ok (turn-as.On y)) h = h
sound_has P (Ok (turn-as.Over z)) h = h
sound_has P (Err f) h = tt

-- at a fault the span is the one that the turn began with
module _ (P : Span → Type 0) (r : Rule) (y : Span) (h : P y) where
  by_turn : (t : Turn) → SoundHas P (Ok t) → SpanHas P (Ok t)
  unfolding came
  by_turn (turn-as.On z) k = k
  by_turn (turn-as.Over z) k = k

  pub fault_keeps : (f : Result Sought Damage) → SoundHas P (turn_after r y f) → SpanHas P (turn_after r y f)
  unfolding came turn_after
  fault_keeps (Ok g) k = by_turn (turn_of r y g) k
  fault_keeps (Err d) k = h

pub turn_more : (P P' : Span → Type 0) (Q Q' : Result Spaced Stuck → Type 0) → ((z : Span) → P z → P' z) → ((z : Result Spaced Stuck) → Q z → Q' z) → (t : Result Turn Stuck) → TurnHas P Q t → TurnHas P' Q' t
turn_more P P' Q Q' f g (Ok (turn-as.On y)) h = f y h
turn_more P P' Q Q' f g (Ok (turn-as.Over z)) h = g (Ok z) h
turn_more P P' Q Q' f g (Err x) h = g (Err x) h

-- the three things that a mark can come to from the span x
module _ (P : Turn → Type 0) (r : Rule) (x : Span) (q : ℕ)
    (by_mark : (n : RecordCount) → x.left ≡ count-as.Records n → P (turn-as.Over (stopped stop-as.Mark (span q (count-as.Records n) true true))))
    (at_end : (n : MarkCount) → x.left ≡ count-as.Marks n → (r.ess && x.after_mark) ≡ true → P (turn-as.Over (stopped stop-as.LogicalEnd (span q (marks (n.0 - 1)) true true))))
    (goes_on : (n : MarkCount) → x.left ≡ count-as.Marks n → (r.ess && x.after_mark) ≡ false → P (turn-as.On (span q (marks (n.0 - 1)) true true))) where
  skip_by : (n : MarkCount) → x.left ≡ count-as.Marks n → (b : Bool) → (r.ess && x.after_mark) ≡ b
      → P (pick b (turn-as.Over (stopped stop-as.LogicalEnd (span q (marks (n.0 - 1)) true true))) (turn-as.On (span q (marks (n.0 - 1)) true true)))
  skip_by n e true w = at_end n e w
  skip_by n e false w = goes_on n e w

  mark_by : (c : Count) → x.left ≡ c → P (mark_turn_by r x c q)
  unfolding mark_turn_by skip_turn
  mark_by (count-as.Records n) e = by_mark n e
  mark_by (count-as.Marks n) e = skip_by n e (r.ess && x.after_mark) refl

  pub mark_turns : P (mark_turn r x q)
  unfolding mark_turn
  mark_turns = mark_by x.left refl

-- it counts marks, or records
abbrev pub Counts : Bool → Span → Type 0
Counts marks y = of_marks y.left ≡ marks

-- a space over records never becomes a skip over marks, nor a skip a space
pub turn_kind : (marks : Bool) (r : Rule) (y : Span) (f : Result Sought Damage) → Counts marks y → SpanHas (Counts marks) (turn_after r y f)
unfolding came turn_after turn_of record_turn
turn_kind marks r y (Ok (sought-as.Record n q)) k = record_kind y.left ∙ k
turn_kind marks r y (Ok (sought-as.Mark q)) k =
    mark_turns (λ t. SpanHas (Counts marks) (Ok t)) r y q (λ n e. ap of_marks (sym e) ∙ k) (λ n e w. ap of_marks (sym e) ∙ k) (λ n e w. ap of_marks (sym e) ∙ k)
turn_kind marks r y (Ok (sought-as.Nothing q)) k = k
turn_kind marks r y (Err d) k = k
