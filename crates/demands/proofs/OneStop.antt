-- A Position mode 0 to 3 has one end only: what `SpaceEnded` says decides the position, the residual, the class and the bits.
use mathlib.Core.Bool.{Bool, true, false, ◌&&◌, false≢true, not, true≢false}
use mathlib.Core.List.{List}
use mathlib.Core.Path.{◌≡◌, refl, sym, ap, subst, ◌∙◌}
use Prim.Native.Nat.{ℕ, ◌+◌, ◌-◌, ◌<◌}
use native.Mathlib.Omega.{arith}
use borrow.Author.Tests.{eq-eqb, le-ltb, lt-ltb}
use lib.Dec.{eqb, ltb}
use Rattle.lists.specs.Pick.{pick}
use Rattle.tape.specs.Pass.{ahead, passed, passed_under}
use Rattle.tape.specs.declared.Met.{Met}
use Rattle.tape.specs.declared.Met.TheVariants as met
use Rattle.tape.specs.declared.BlockFault.{BlockFault}
use Rattle.signals.specs.Bits.{LET, OPI, REV, RIB, RLS, TMK}
use Rattle.signals.specs.Message.{flag_of}
use Rattle.signals.specs.Residuals.{residual_word}
use Rattle.state.specs.declared.Tape.{Tape}
use Rattle.motions.specs.declared.parts.Ending.{Ending}
use Rattle.moves.specs.Counting.{how_many, of_marks}
use Rattle.moves.specs.declared.spacing.Count.{Count}
use Rattle.moves.specs.declared.spacing.Rule.{Rule}
use Rattle.demands.specs.Done.{passed_in}
use Rattle.demands.specs.Stops.{Goes, Over, SpaceEnded, SpaceRefused, Stopped, at_bot, at_logical_end, at_recorded_end, by_mark, from_start, mark_passed, past_gap, past_mark, past_record, satisfied, since_mark}
use Rattle.std.specs.Prelude.{Result, Ok, Err}
use Rattle.tape.specs.declared.Damage.{Damage}

-- what an end tells
record Told : Type 0 where
  position : ℕ
  left : ℕ
  class : ℕ
  found : ℕ
  xst3 : ℕ

abbrev tells : ℕ → ℕ → ℕ → ℕ → ℕ → Told
tells q l c f x = record { position = q; left = l; class = c; found = f; xst3 = x }

-- where a Position is: what was counted, was a mark passed, is one the last
record Place : Type 0 where
  at : ℕ
  done : ℕ
  tmk : Bool
  after : Bool

abbrev place : ℕ → ℕ → Bool → Bool → Place
place q d m a = record { at = q; done = d; tmk = m; after = a }

-- it goes on, ends, or meets a fault
data Next : Type 0 where
  goes_on : Place → Next
  halts : Told → Next
  faults : Next

-- what it tells where it ends
abbrev told_of : Next → Told → Told
told_of (goes_on y) z = z
told_of (halts y) z = y
told_of faults z = z

abbrev halts_is : Next → Bool
halts_is (goes_on y) = false
halts_is (halts y) = true
halts_is faults = false

-- a Position from the tape t on the reel s
module _ (s : List ℕ) (t : Tape) (rule : Rule) (count : Count) where
  abbrev left_at : Place → ℕ
  left_at x = how_many count - x.done

  -- by what is met
  abbrev on_met : Place → Result Met Damage → Next
  on_met x (Ok (met.Record n b)) = goes_on (place b (x.done + pick (of_marks count) 0 1) x.tmk false)
  on_met x (Ok (met.Gap b)) = goes_on (place b x.done x.tmk x.after)
  on_met x (Ok (met.Mark b)) =
      let l : ℕ = left_at x - 1 in
      pick (of_marks count)
      (pick (rule.ess && x.after) (halts (tells b l 2 (TMK + LET + flag_of (not (eqb l 0)) RLS) (flag_of rule.reverse REV))) (goes_on (place b (x.done + pick (of_marks count) 1 0) true true)))
      (halts (tells b (left_at x) 2 (TMK + RLS) (flag_of rule.reverse REV)))
  on_met x (Ok met.Nothing) =
      pick rule.reverse
      (halts (tells x.at (left_at x) 2 (flag_of x.tmk TMK + flag_of (not (eqb (left_at x) 0)) RLS) (REV + RIB)))
      (halts (tells x.at (left_at x) 6 (flag_of x.tmk TMK) OPI))
  on_met x (Err d) = faults

  abbrev met_ahead : Place → Result Met Damage
  met_ahead x = passed s rule.reverse x.at t.end

  -- one object further, while some of the count is left
  abbrev next : Place → Next
  next x = pick (ltb x.done (how_many count)) (on_met x (met_ahead x)) (halts (tells x.at 0 0 (flag_of x.tmk TMK) (flag_of rule.reverse REV)))

  abbrev onward_is : Next → Bool
  onward_is (goes_on y) = true
  onward_is (halts y) = false
  onward_is faults = false

  -- from a place to the end, or a fault
  data Leads (z : Next) : Place → Type 0 where
    now : {x : Place} → next x ≡ z → onward_is z ≡ false → Leads z x
    later : {x y : Place} → next x ≡ goes_on y → Leads z y → Leads z x

  abbrev place_of : Next → Place → Place
  place_of (goes_on y) z = y
  place_of (halts y) z = z
  place_of faults z = z

  -- a place leads to one of them
  one_last : {z z₂ : Next} {x : Place} → Leads z x → Leads z₂ x → z ≡ z₂
  one_last (now a o) (now b i) = sym a ∙ b
  one_last (now a o) (later b l) = absurd (false≢true (sym o ∙ ap onward_is (sym a ∙ b)))
  one_last (later a l) (now b o) = absurd (false≢true (sym o ∙ ap onward_is (sym b ∙ a)))
  one_last {z₂ = z₂} (later {y = y} a l) (later b k) = one_last l (subst (Leads z₂) (ap (λ n. place_of n y) (sym b ∙ a)) k)

  -- the next object decides, while some of the count is left
  next_met : (x : Place) (m : Result Met Damage) → x.done < how_many count → met_ahead x ≡ m → next x ≡ on_met x m
  next_met x m h y = rw (lt-ltb x.done (how_many count) h, y)

  -- a mark that is counted
  mark_on : (x : Place) (b : ℕ) → of_marks count ≡ true → (rule.ess && x.after) ≡ false → on_met x (Ok (met.Mark b)) ≡ goes_on (place b (x.done + pick (of_marks count) 1 0) true true)
  mark_on x b z w = rw (z, w)

  -- where nothing lies ahead nothing is met
  none_ahead : (reverse : Bool) (q : ℕ) → ahead reverse q t.end ≡ 0 → passed s reverse q t.end ≡ Ok met.Nothing
  unfolding passed_under
  none_ahead reverse q h = rw (eq-eqb (ahead reverse q t.end) 0 h)

  -- the five ends, with so much left
  done_halts : (x : Place) (left : ℕ) → left ≡ 0 → x.done + left ≡ how_many count → next x ≡ halts (tells x.at left 0 (flag_of x.tmk TMK) (flag_of rule.reverse REV))
  done_halts x left z c = rw (le-ltb x.done (how_many count) (omega arith), z)

  mark_halts : (x : Place) (b left : ℕ) → of_marks count ≡ false → x.done + left ≡ how_many count → on_met x (Ok (met.Mark b)) ≡ halts (tells b left 2 (TMK + RLS) (flag_of rule.reverse REV))
  mark_halts x b left z c =
      let l : how_many count - x.done ≡ left = omega arith in
      rw (z, l)

  logical_halts : (x : Place) (b left : ℕ) → of_marks count ≡ true → (rule.ess && x.after) ≡ true → x.done + 1 + left ≡ how_many count
      → on_met x (Ok (met.Mark b)) ≡ halts (tells b left 2 (TMK + LET + flag_of (not (eqb left 0)) RLS) (flag_of rule.reverse REV))
  logical_halts x b left z w c =
      let l : how_many count - x.done - 1 ≡ left = omega arith in
      rw (z, w, l)

  bot_halts : (x : Place) (left : ℕ) → rule.reverse ≡ true → x.done + left ≡ how_many count
      → on_met x (Ok met.Nothing) ≡ halts (tells x.at left 2 (flag_of x.tmk TMK + flag_of (not (eqb left 0)) RLS) (REV + RIB))
  bot_halts x left z c =
      let l : how_many count - x.done ≡ left = omega arith in
      rw (z, l)

  recorded_halts : (x : Place) (left : ℕ) → rule.reverse ≡ false → x.done + left ≡ how_many count → on_met x (Ok met.Nothing) ≡ halts (tells x.at left 6 (flag_of x.tmk TMK) OPI)
  recorded_halts x left z c =
      let l : how_many count - x.done ≡ left = omega arith in
      rw (z, l)

  module _ (first : Bool) where
    -- behind the objects read over
    abbrev behind : (q : ℕ) → Over s t rule count first q → Place
    behind q r = place q (passed_in (of_marks count) r) (mark_passed r) (since_mark first r)

    -- what they lead to, the start leads to
    goes_leads : {z : Next} {q : ℕ} {r : Over s t rule count first q} → Goes rule count first q r → Leads z (behind q r) → Leads z (place t.position 0 false first)
    unfolding passed_in mark_passed since_mark
    goes_leads from_start l = l
    goes_leads (past_record {q = q} {r = r} {x = x} h g) l = goes_leads g (later (next_met (behind q r) _ h x) l)
    goes_leads (past_gap {q = q} {r = r} {x = x} h g) l = goes_leads g (later (next_met (behind q r) _ h x) l)
    goes_leads (past_mark {q = q} {r = r} {x = x} h z w g) l = goes_leads g (later (next_met (behind q r) _ h x ∙ mark_on (behind q r) _ z w) l)

    -- and each reason is where it ends
    why_leads : {left q : ℕ} {r : Over s t rule count first q} {class found xst3 : ℕ} → passed_in (of_marks count) r + left ≡ how_many count → Stopped s t rule count first left q r class found xst3
        → Leads (halts (tells q left class found xst3)) (place t.position 0 false first)
    unfolding passed_in
    why_leads c (satisfied {q = q} {r = r} g z) = goes_leads g (now (done_halts (behind q r) _ z c) refl)
    why_leads {left = left} c (by_mark {q = q} {r = r} {x = x} g h z) =
        let none : pick {A = ℕ} (of_marks count) 1 0 ≡ 0 = rw z in
        goes_leads g (now (next_met (behind q r) _ h x ∙ mark_halts (behind q r) _ left z (omega (arith, none, c))) refl)
    why_leads {left = left} c (at_logical_end {q = q} {r = r} {x = x} g h z w) =
        let one : pick {A = ℕ} (of_marks count) 1 0 ≡ 1 = rw z in
        goes_leads g (now (next_met (behind q r) _ h x ∙ logical_halts (behind q r) _ left z w (omega (arith, one, c))) refl)
    why_leads c (at_bot {q = q} {r = r} g h z a) = goes_leads g (now (next_met (behind q r) (Ok met.Nothing) h (rw z (none_ahead true q a)) ∙ bot_halts (behind q r) _ z c) refl)
    why_leads c (at_recorded_end {q = q} {r = r} g h z a) =
        goes_leads g (now (next_met (behind q r) (Ok met.Nothing) h (rw z (none_ahead false q a)) ∙ recorded_halts (behind q r) _ z c) refl)

    abbrev told_by_lem : Ending → Told
    told_by_lem x = tells x.tape.position (residual_word x.end.residual) x.end.class x.end.found x.end.xst3

    -- two ends of one Position tell the same
    pub one_end : {x y : Ending} → SpaceEnded s t rule count first x → SpaceEnded s t rule count first y
        → (x.tape.position ≡ y.tape.position) × (residual_word x.end.residual ≡ residual_word y.end.residual) × (x.end.class ≡ y.end.class)
        × (x.end.found ≡ y.end.found)
        × (x.end.xst3 ≡ y.end.xst3)
    one_end {x = x} {y = y} a b =
        let last = one_last (why_leads a.counted a.why) (why_leads b.counted b.why) in
        let same : told_by_lem x ≡ told_by_lem y = ap (λ n. told_of n (told_by_lem x)) last in
        (ap (λ z. z.position) same, ap (λ z. z.left) same, ap (λ z. z.class) same, ap (λ z. z.found) same, ap (λ z. z.xst3) same)

    -- and where a block refuses it there is none
    pub no_end : {x : Ending} {why : BlockFault} {k : ℕ} → SpaceEnded s t rule count first x → SpaceRefused s t rule count first why k → ⊥
    no_end a b =
        let leads : Leads faults (place t.position 0 false first) = goes_leads b.goes (now (next_met (behind b.from b.over) _ b.more b.bad) refl) in
        true≢false (ap halts_is (one_last (why_leads a.counted a.why) leads))
