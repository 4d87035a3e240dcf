-- Why a Position mode 0 to 3 stopped: each turn of its space keeps what was read over, and the last one says why.
use mathlib.Core.Bool.{Bool, true, false, ◌&&◌}
use mathlib.Core.List.{List}
use mathlib.Core.Path.{◌≡◌, refl, sym, ap, ◌∙◌}
use Prim.Native.Nat.{ℕ, ◌+◌, ◌-◌, ◌<◌, ◌≤◌}
use native.Mathlib.Omega.{arith}
use borrow.Author.Tests.{eq-eqb}
use lib.Dec.{eqb}
use Rattle.lists.specs.Pick.{pick}
use Rattle.lists.proofs.Cases.{pick_told}
use Rattle.tape.specs.Pass.{ahead, passed}
use Rattle.tape.specs.declared.Met.TheVariants as met
use Rattle.signals.specs.declared.message.End.{End}
use Rattle.state.specs.declared.Tape.{Tape}
use Rattle.moves.specs.Counting.{how_many, marks, of_marks}
use Rattle.moves.specs.Spacing.{record_turn, span, spaced, spaced_under, turn_after, turn_of}
use Rattle.moves.specs.declared.seeking.Sought.{Sought}
use Rattle.moves.specs.declared.seeking.Sought.TheVariants as sought-as
use Rattle.moves.specs.declared.spacing.Count.{Count}
use Rattle.moves.specs.declared.spacing.Count.TheVariants as count-as
use Rattle.moves.specs.declared.spacing.Rule.{Rule}
use Rattle.moves.specs.declared.spacing.Spaced.{Spaced}
use Rattle.moves.specs.declared.spacing.Stuck.{Stuck}
use Rattle.moves.specs.declared.spacing.Span.{Span}
use Rattle.moves.specs.declared.spacing.Stop.{Stop}
use Rattle.moves.specs.declared.spacing.Stop.TheVariants as stop-as
use Rattle.moves.specs.declared.spacing.Turn.{Turn}
use Rattle.moves.proofs.Counting.{mark_number, mark_stops_number, record_number}
use Rattle.moves.proofs.Counts.{spaced_why}
use Rattle.moves.proofs.Rounds.{rounds}
use Rattle.moves.proofs.Turns.{Counts, TurnHas, mark_turns}
use Rattle.motions.specs.Parts.{end, resting, standing, stops}
use Rattle.motions.specs.Spaces.{positioned, positioned_under, residual_of, space_end, space_motion, space_motion_by, start_span}
use Rattle.motions.specs.declared.parts.Ending.{Ending}
use Rattle.demands.specs.Done.{passed_in}
use Rattle.demands.specs.Faults.{nothing_yet, then_gap, then_mark, then_record}
use Rattle.demands.specs.Stops.{Goes, Over, SpaceEnded, SpaceRefused, Stopped, at_bot, at_logical_end, at_recorded_end, by_mark, from_start, mark_passed, past_gap, past_mark, past_record, satisfied, since_mark}
use Rattle.demands.proofs.Faults.{over_below}
use Rattle.demands.proofs.Meets.{Comes, Meets, meets}
use Rattle.demands.proofs.Residuals.{left_told}
use Rattle.std.specs.Prelude.{Result, Ok, Err, IfOk}
use Rattle.tape.specs.declared.Damage.{Damage}

-- with some left, the count is not reached
more : {done left count : ℕ} → (left ≡ 0 → ⊥) → done + left ≡ count → done < count
more some y = omega arith

-- a Position from the tape t on the reel s
module _ (s : List ℕ) (t : Tape) (rule : Rule) (count : Count) (first : Bool) where
  -- what a turn knows, at position q with so much left: the objects read over, and what the span keeps of them
  record Kept (q left : ℕ) (tmk after : Bool) : Type 0 where
    over : Over s t rule count first q
    goes : Goes rule count first q over
    marked : mark_passed over ≡ tmk
    since : since_mark first over ≡ after
    adds : passed_in (of_marks count) over + left ≡ how_many count

  abbrev KeptAt : Span → Type 0
  KeptAt y = Kept y.position (how_many y.left) y.tmk y.after_mark

  -- before the first turn
  kept_none : Kept t.position (how_many count) false first
  unfolding passed_in mark_passed since_mark
  kept_none = record { over = nothing_yet; goes = from_start; marked = refl; since = refl; adds = omega arith }

  -- a gap changes nothing of it
  kept_gap : (left : ℕ) (tmk after : Bool) (some : left ≡ 0 → ⊥) (q b : ℕ) → Kept q left tmk after → passed s rule.reverse q t.end ≡ Ok (met.Gap b) → Kept b left tmk after
  unfolding passed_in mark_passed since_mark
  kept_gap left tmk after some q b k g = record { over = then_gap k.over g; goes = past_gap (more some k.adds) k.goes; marked = k.marked; since = k.since; adds = k.adds }

  -- a record, counted or not
  kept_record : (left less : ℕ) (tmk after : Bool) (q b n : ℕ) → Kept q left tmk after → passed s rule.reverse q t.end ≡ Ok (met.Record n b) → (left ≡ 0 → ⊥)
      → pick (of_marks count) 0 1 + less ≡ left → Kept b less tmk false
  unfolding passed_in mark_passed since_mark
  kept_record left less tmk after q b n k g some l =
      record { over = then_record k.over g; goes = past_record (more some k.adds) k.goes; marked = k.marked; since = refl; adds = omega (arith, k.adds, l) }

  -- a mark that is counted and does not end it
  kept_mark : (left less : ℕ) (tmk after : Bool) (q b : ℕ) → Kept q left tmk after → passed s rule.reverse q t.end ≡ Ok (met.Mark b) → (left ≡ 0 → ⊥)
      → of_marks count ≡ true → (rule.ess && after) ≡ false → pick (of_marks count) 1 0 + less ≡ left → Kept b less true true
  unfolding passed_in mark_passed since_mark
  kept_mark left less tmk after q b k g some z w l =
      record { over = then_mark k.over g; goes = past_mark {r = k.over} (more some k.adds) z (rw k.since w) k.goes; marked = refl; since = refl; adds = omega (arith, k.adds, l) }

  -- an end from position q with so much left
  record Ends (q left : ℕ) (x : End) : Type 0 where
    over : Over s t rule count first q
    counted : passed_in (of_marks count) over + left ≡ how_many count
    why : Stopped s t rule count first left q over x.class x.found x.xst3

  -- the count is satisfied
  ends_count : (y : Span) → KeptAt y → how_many y.left ≡ 0 → Ends y.position (how_many y.left) (space_end rule y stop-as.Count)
  unfolding space_end
  ends_count y k z = record { over = k.over; counted = k.adds; why = rw (← k.marked) (satisfied k.goes z) }

  -- a mark ends records
  ends_mark : (left : ℕ) (less : Count) (tmk after : Bool) (q b : ℕ) → Kept q left tmk after → passed s rule.reverse q t.end ≡ Ok (met.Mark b) → (left ≡ 0 → ⊥)
      → of_marks count ≡ false → pick (of_marks count) 1 0 + how_many less ≡ left → Ends b (how_many less) (space_end rule (span b less true true) stop-as.Mark)
  unfolding space_end passed_in
  ends_mark left less tmk after q b k g some z l =
      record { over = then_mark k.over g; counted = omega (arith, k.adds, l); why = by_mark k.goes (more some k.adds) z }

  -- the second mark in a row
  ends_logical : (left : ℕ) (less : Count) (tmk after : Bool) (q b : ℕ) → Kept q left tmk after → passed s rule.reverse q t.end ≡ Ok (met.Mark b) → (left ≡ 0 → ⊥)
      → of_marks count ≡ true → (rule.ess && after) ≡ true → pick (of_marks count) 1 0 + how_many less ≡ left → Ends b (how_many less) (space_end rule (span b less true true) stop-as.LogicalEnd)
  unfolding space_end passed_in
  ends_logical left less tmk after q b k g some z w l =
      record { over = then_mark k.over g; counted = omega (arith, k.adds, l); why = at_logical_end {r = k.over} k.goes (more some k.adds) z (rw k.since w) }

  -- nothing lies ahead
  ends_nothing : (left : Count) (tmk after : Bool) (q : ℕ) → Kept q (how_many left) tmk after → (how_many left ≡ 0 → ⊥) → ahead rule.reverse q t.end ≡ 0
      → Ends q (how_many left) (space_end rule (span q left tmk after) stop-as.Nothing)
  unfolding space_end
  ends_nothing left tmk after q k some h =
      pick_told (Ends q (how_many left)) rule.reverse _ _
      (λ z. record { over = k.over; counted = k.adds; why = rw (← k.marked) (at_bot k.goes (more some k.adds) z (rw z at h)) })
      (λ z. record { over = k.over; counted = k.adds; why = rw (← k.marked) (at_recorded_end k.goes (more some k.adds) z (rw z at h)) })

  -- where the space stopped, by why it did
  abbrev Why : Span → Stop → Type 0
  Why y stop-as.Count = KeptAt y
  Why y stop-as.Mark = Ends y.position (how_many y.left) (space_end rule y stop-as.Mark)
  Why y stop-as.LogicalEnd = Ends y.position (how_many y.left) (space_end rule y stop-as.LogicalEnd)
  Why y stop-as.Nothing = Ends y.position (how_many y.left) (space_end rule y stop-as.Nothing)

  -- or at what fault
  abbrev WhyOver : Result Spaced Stuck → Type 0
  WhyOver (Ok z) = Why z.span z.stop
  WhyOver (Err f) = SpaceRefused s t rule count first f.damage.fault f.damage.block

  abbrev Turned : Result Turn Stuck → Type 0
  Turned x = TurnHas KeptAt WhyOver x

  abbrev Met-from : (y : Span) → (how_many y.left ≡ 0 → ⊥) → Result Sought Damage → Type 0
  Met-from y some f =
      Meets s t.end rule.reverse (λ q. Kept q (how_many y.left) y.tmk y.after_mark) (kept_gap (how_many y.left) y.tmk y.after_mark some) y.position f

  -- each turn, by what its search found
  turn_kept : (y : Span) (f : Result Sought Damage) → Counts (of_marks count) y → (some : how_many y.left ≡ 0 → ⊥) → y.position ≤ t.end → Met-from y some f → Turned (turn_after rule y f)
  unfolding turn_after turn_of record_turn
  turn_kept y (Ok (sought-as.Record n b)) same some l (q, k, g) = kept_record _ _ _ _ q b n k g some (rw same at (record_number y.left some))
  turn_kept y (Ok (sought-as.Mark b)) same some l (q, k, g) =
      mark_turns (λ x. Turned (Ok x)) rule y b
      (λ n e. ends_mark _ (count-as.Records n) _ _ q b k g some (sym same ∙ ap of_marks e) (rw same at (mark_stops_number n e)))
      (λ n e w. ends_logical _ (marks (n.0 - 1)) _ _ q b k g some (sym same ∙ ap of_marks e) w (rw same at (mark_number n e some)))
      (λ n e w. kept_mark _ _ _ _ q b k g some (sym same ∙ ap of_marks e) w (rw same at (mark_number n e some)))
  turn_kept y (Ok (sought-as.Nothing q)) same some l (k, h) = ends_nothing _ _ _ q k some (h l)
  turn_kept y (Err d) same some l (q, k, g) = record { from = q; over = k.over; goes = k.goes; more = more some k.adds; bad = g }

  -- so where the space stops
  spaced_kept : (x : Span) → t.position ≤ t.end → Counts (of_marks count) x → KeptAt x → WhyOver (spaced s rule t.end x)
  unfolding spaced_under
  spaced_kept x below_end same i =
      rounds s rule t.end (of_marks count) (λ turns y. KeptAt y) WhyOver
      (λ turns y c k some.
      turn_kept y _ c some (over_below s t.end rule.reverse below_end k.over)
      (meets s t.end rule.reverse (λ q. Kept q (how_many y.left) y.tmk y.after_mark) (kept_gap (how_many y.left) y.tmk y.after_mark some) y.position k))
      (λ turns y k w. k) (t.end + 1) x same i

  -- an end as the motion tells it
  ends_told : (y : Span) (why : Stop) → Ends y.position (how_many y.left) (space_end rule y why)
      → SpaceEnded s t rule count first (resting (space_end rule y why) (standing y.position t.end))
  ends_told y why k = record { over = k.over; counted = rw (left_told rule y why) k.counted; why = rw (left_told rule y why) k.why }

  -- how a Position comes out
  abbrev pub SpaceComes : Result Ending Damage → Type 0
  SpaceComes = Comes (SpaceEnded s t rule count first) (SpaceRefused s t rule count first)

  -- and so by why the space stopped
  motion_comes : (y : Span) (why : Stop) → Why y why → (why ≡ stop-as.Count → how_many y.left ≡ 0) → SpaceComes (space_motion_by rule y t.end why)
  unfolding space_motion_by
  motion_comes y stop-as.Count k z = ends_told y stop-as.Count (ends_count y k (z refl))
  motion_comes y stop-as.Mark k z = ends_told y stop-as.Mark k
  motion_comes y stop-as.LogicalEnd k z = ends_told y stop-as.LogicalEnd k
  motion_comes y stop-as.Nothing k z = ends_told y stop-as.Nothing k

  space_over : (f : Result Spaced Stuck) → WhyOver f → IfOk f (λ z. z.stop ≡ stop-as.Count → how_many z.span.left ≡ 0) → SpaceComes (space_motion rule f t.end)
  unfolding space_motion
  space_over (Ok z) k w = motion_comes z.span z.stop k w
  space_over (Err d) k w = k

-- how a Position mode 0 to 3 with a count comes out, from where the tape stands: a block refuses it only where it has to be read
pub space_comes : (s : List ℕ) (t : Tape) (rule : Rule) (count : Count) (enb : Bool) → t.position ≤ t.end → eqb (how_many count) 0 ≡ false
    → SpaceComes s t rule count (enb && eqb t.position 0) (positioned s t rule count enb)
unfolding positioned_under
space_comes s t rule count enb below_end some =
    let first : Bool = enb && eqb t.position 0 in
    let x : Span = start_span t count enb in
    rw some
    (space_over s t rule count first _ (spaced_kept s t rule count first x below_end refl (kept_none s t rule count first))
    (spaced_why s rule t.end x below_end))

-- "A Position count of 0 moves nothing, class 0"
pub space_of_none : (s : List ℕ) (t : Tape) (rule : Rule) (count : Count) (enb : Bool) → how_many count ≡ 0 → positioned s t rule count enb ≡ stops (end 0 0 0 (residual_of count)) t
unfolding positioned_under
space_of_none s t rule count enb z = rw (eq-eqb (how_many count) 0 z)
