-- Why a Position mode 0 to 3 stopped, by the objects that it read over. "Records: a mark stops them, isn't counted, is passed: TMK, RLS, class 2.
-- Marks: TMK if one was passed. In Marks with ESS two marks with no record between them in one command, or with ENB too a mark met first from
-- block 0, end it, that mark counted: LET, class 2. In Records and Marks alike, RLS if BOT or LET left any count." "Forward at the recorded end:
-- OPI, class 6. Reverse to block 0 with no further record or mark: RIB, class 2, position 0." (01, Commands)
use Rattle.std.specs.Prelude.{Bool, true, false, ◌&&◌, not, List, ◌≡◌, ℕ, ◌+◌, ◌<◌, eqb, Ok, Err}
use Rattle.tape.specs.Pass.{ahead, passed}
use Rattle.tape.specs.declared.Met.TheVariants as met
use Rattle.tape.specs.declared.BlockFault.{BlockFault}
use Rattle.signals.specs.Bits.{LET, OPI, REV, RIB, RLS, TMK}
use Rattle.signals.specs.Message.{flag_of}
use Rattle.signals.specs.Residuals.{residual_word}
use Rattle.state.specs.declared.Tape.{Tape}
use Rattle.motions.specs.declared.parts.Ending.{Ending}
use Rattle.moves.specs.Counting.{how_many, of_marks}
use Rattle.moves.specs.declared.spacing.Count.{Count}
use Rattle.moves.specs.declared.spacing.Rule.{Rule}
use Rattle.demands.specs.Done.{passed_in}
use Rattle.demands.specs.Faults.{ReadOver, nothing_yet, then_gap, then_mark, then_record}
use Rattle.tape.specs.Damage.{damage}

module _ {s : List ℕ} {e : ℕ} {reverse : Bool} {p : ℕ} where
  -- was a mark read over?
  unfoldable pub mark_passed : {q : ℕ} → ReadOver s e reverse p q → Bool
  mark_passed nothing_yet = false
  mark_passed (then_record r x) = mark_passed r
  mark_passed (then_mark r x) = true
  mark_passed (then_gap r x) = mark_passed r

  -- no record was read over since the last mark; `first` says whether the start counts as a mark
  unfoldable pub since_mark : {q : ℕ} → Bool → ReadOver s e reverse p q → Bool
  since_mark first nothing_yet = first
  since_mark first (then_record r x) = false
  since_mark first (then_mark r x) = true
  since_mark first (then_gap r x) = since_mark first r

  -- each object was read over with some of the count left, and no mark that ends the command: none at all where records are counted, with ESS no
  -- second in a row
  pub data Goes (rule : Rule) (count : Count) (first : Bool) : (q : ℕ) → ReadOver s e reverse p q → Type 0 where
    from_start : Goes rule count first p nothing_yet
    past_record : {q q' n : ℕ} {r : ReadOver s e reverse p q} {x : passed s reverse q e ≡ Ok (met.Record n q')} → passed_in (of_marks count) r < how_many count
        → Goes rule count first q r → Goes rule count first q' (then_record r x)
    past_gap : {q q' : ℕ} {r : ReadOver s e reverse p q} {x : passed s reverse q e ≡ Ok (met.Gap q')} → passed_in (of_marks count) r < how_many count
        → Goes rule count first q r → Goes rule count first q' (then_gap r x)
    past_mark : {q q' : ℕ} {r : ReadOver s e reverse p q} {x : passed s reverse q e ≡ Ok (met.Mark q')} → passed_in (of_marks count) r < how_many count
        → of_marks count ≡ true → (rule.ess && since_mark first r) ≡ false → Goes rule count first q r → Goes rule count first q' (then_mark r x)

-- of a Position by the rule r with this count from the tape t on the reel s: the objects read over, and its class, XST0's upper bits and XST3. `left`
-- is the residual
module _ (s : List ℕ) (t : Tape) (rule : Rule) (count : Count) (first : Bool) where
  abbrev pub Over : ℕ → Type 0
  Over q = ReadOver s t.end rule.reverse t.position q

  pub data Stopped (left : ℕ) : (q : ℕ) → Over q → ℕ → ℕ → ℕ → Type 0 where
    -- the count is satisfied, by the object read over last
    satisfied : {q : ℕ} {r : Over q} → Goes rule count first q r → left ≡ 0 → Stopped left q r 0 (flag_of (mark_passed r) TMK) (flag_of rule.reverse REV)
    -- records, and a mark
    by_mark : {q q' : ℕ} {r : Over q} {x : passed s rule.reverse q t.end ≡ Ok (met.Mark q')} → Goes rule count first q r → passed_in (of_marks count) r < how_many count → of_marks count ≡ false
        → Stopped left q' (then_mark r x) 2 (TMK + RLS) (flag_of rule.reverse REV)
    -- marks, and the second in a row
    at_logical_end : {q q' : ℕ} {r : Over q} {x : passed s rule.reverse q t.end ≡ Ok (met.Mark q')} → Goes rule count first q r → passed_in (of_marks count) r < how_many count
        → of_marks count ≡ true → (rule.ess && since_mark first r) ≡ true
        → Stopped left q' (then_mark r x) 2 (TMK + LET + flag_of (not (eqb left 0)) RLS) (flag_of rule.reverse REV)
    -- some of the count is left and nothing lies ahead, in reverse and forward
    at_bot : {q : ℕ} {r : Over q} → Goes rule count first q r → passed_in (of_marks count) r < how_many count → rule.reverse ≡ true → ahead true q t.end ≡ 0
        → Stopped left q r 2 (flag_of (mark_passed r) TMK + flag_of (not (eqb left 0)) RLS) (REV + RIB)
    at_recorded_end : {q : ℕ} {r : Over q} → Goes rule count first q r → passed_in (of_marks count) r < how_many count → rule.reverse ≡ false → ahead false q t.end ≡ 0
        → Stopped left q r 6 (flag_of (mark_passed r) TMK) OPI

  -- how such a motion ended
  pub record SpaceEnded (x : Ending) : Type 0 where
    pub over : Over x.tape.position
    pub counted : passed_in (of_marks count) over + residual_word x.end.residual ≡ how_many count
    pub why : Stopped (residual_word x.end.residual) x.tape.position over x.end.class x.end.found x.end.xst3

  -- block k refuses it: with some of the count left it has to be read, behind what was read over
  pub record SpaceRefused (why : BlockFault) (k : ℕ) : Type 0 where
    pub from : ℕ
    pub over : Over from
    pub goes : Goes rule count first from over
    pub more : passed_in (of_marks count) over < how_many count
    pub bad : passed s rule.reverse from t.end ≡ Err (damage why k)
