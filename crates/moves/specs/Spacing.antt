-- "Records: a mark stops them, isn't counted, is passed .. In Marks with ESS two marks with no record between them in one command ..
-- end it, that mark counted" (01, Commands)
use Rattle.std.specs.Prelude.{Bool, true, false, ◌&&◌, List, ℕ, suc, ◌+◌, ◌-◌, eqb, Result, Ok, Err}
use Rattle.lists.specs.Pick.{pick}
use Rattle.tape.specs.Numbers.{record_limit}
use Rattle.signals.specs.declared.counts.MarkCount.{MarkCount}
use Rattle.moves.specs.Counting.{after_record, how_many, marks}
use Rattle.moves.specs.Seeking.{sought_under}
use Rattle.moves.specs.declared.seeking.Sought.{Sought}
use Rattle.moves.specs.declared.seeking.Sought.TheVariants as sought-as
use Rattle.moves.specs.declared.spacing.Count.{Count}
use Rattle.moves.specs.declared.spacing.Count.TheVariants as count-as
use Rattle.moves.specs.declared.spacing.Rule.{Rule}
use Rattle.moves.specs.declared.spacing.Span.{Span}
use Rattle.moves.specs.declared.spacing.Spaced.{Spaced}
use Rattle.moves.specs.declared.spacing.Stop.{Stop}
use Rattle.moves.specs.declared.spacing.Stop.TheVariants as stop-as
use Rattle.moves.specs.declared.spacing.Turn.{Turn}
use Rattle.moves.specs.declared.spacing.Turn.TheVariants as turn-as
use Rattle.tape.specs.declared.Damage.{Damage}
use Rattle.moves.specs.declared.spacing.Stuck.{Stuck}

abbrev pub span : ℕ → Count → Bool → Bool → Span
span q l t a = record { position = q; left = l; tmk = t; after_mark = a }

abbrev pub stopped : Stop → Span → Spaced
stopped why x = record { span = x; stop = why }

-- a record is counted, unless marks are
unfoldable pub record_turn : Span → ℕ → Turn
record_turn x q = turn-as.On (span q (after_record x.left) x.tmk false)

-- of marks it is counted, and with ESS the second in a row ends the command
unfoldable pub skip_turn : Rule → Span → MarkCount → ℕ → Turn
skip_turn r x n q =
    pick (r.ess && x.after_mark)
    (turn-as.Over (stopped stop-as.LogicalEnd (span q (marks (n.0 - 1)) true true)))
    (turn-as.On (span q (marks (n.0 - 1)) true true))

-- a mark stops records
unfoldable pub mark_turn_by : Rule → Span → Count → ℕ → Turn
mark_turn_by r x (count-as.Records n) q = turn-as.Over (stopped stop-as.Mark (span q (count-as.Records n) true true))
mark_turn_by r x (count-as.Marks n) q = skip_turn r x n q

unfoldable pub mark_turn : Rule → Span → ℕ → Turn
mark_turn r x q = mark_turn_by r x x.left q

unfoldable pub turn_of : Rule → Span → Sought → Turn
turn_of r x (sought-as.Record n q) = record_turn x q
turn_of r x (sought-as.Mark q) = mark_turn r x q
turn_of r x (sought-as.Nothing q) = turn-as.Over (stopped stop-as.Nothing (span q x.left x.tmk x.after_mark))

abbrev pub stuck : Damage → Span → Stuck
stuck d x = record { damage = d; span = x }

-- a fault that the search met ends the space where it came to
unfoldable pub turn_after : Rule → Span → Result Sought Damage → Result Turn Stuck
turn_after r x (Ok f) = Ok (turn_of r x f)
turn_after r x (Err d) = Err (stuck d x)

unfoldable pub spaced_on : Result Turn Stuck → (Span → Result Spaced Stuck) → Result Spaced Stuck
spaced_on (Ok (turn-as.On x)) onward = onward x
spaced_on (Ok (turn-as.Over y)) onward = Ok y
spaced_on (Err f) onward = Err f

-- how far a space came, at its end or to a fault
unfoldable pub came : Result Spaced Stuck → Span
came (Ok z) = z.span
came (Err f) = f.span

-- under any record limit
module _ (limit : ℕ) where
  unfoldable pub spaced_from_under : ℕ → List ℕ → Rule → ℕ → Span → Result Spaced Stuck
  spaced_from_under ℕ.zero s r e x = Ok (stopped stop-as.Count x)
  spaced_from_under (suc turns) s r e x =
      let rest = spaced_on (turn_after r x (sought_under limit s r.reverse x.position e)) (λ y. spaced_from_under turns s r e y) in
      pick (eqb (how_many x.left) 0) (Ok (stopped stop-as.Count x)) rest

  -- each turn passes a block or more, so a turn for each block and one more are enough
  unfoldable pub spaced_under : List ℕ → Rule → ℕ → Span → Result Spaced Stuck
  spaced_under s r e x = spaced_from_under (e + 1) s r e x

-- and under this unit's own
abbrev pub spaced_from : ℕ → List ℕ → Rule → ℕ → Span → Result Spaced Stuck
spaced_from = spaced_from_under record_limit

abbrev pub spaced : List ℕ → Rule → ℕ → Span → Result Spaced Stuck
spaced = spaced_under record_limit
