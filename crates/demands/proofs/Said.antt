-- The message of a Position that was carried out says how its motion ended.
use mathlib.Core.Bool.{Bool, true, false, not}
use mathlib.Core.List.{List}
use mathlib.Core.Path.{◌≡◌, refl, sym, ap, subst, ◌∙◌}
use Prim.Native.Nat.{ℕ, ◌+◌, ◌*◌, ◌/◌, ◌<◌, ◌≤◌}
use native.Mathlib.Omega.{arith}
use lib.Dec.{eqb, leb}
use Rattle.lists.specs.Words.{word_at}
use Rattle.signals.specs.Bits.{LET, RLS, TMK}
use Rattle.signals.specs.Message.{flag_of}
use Rattle.signals.specs.Residuals.{residual_word}
use Rattle.signals.specs.declared.packet.Header.{Header}
use Rattle.state.specs.declared.Tape.{Tape}
use Rattle.state.specs.declared.Unit.{Unit}
use Rattle.moves.specs.Counting.{how_many}
use Rattle.moves.specs.declared.spacing.Count.{Count}
use Rattle.moves.specs.declared.spacing.Rule.{Rule}
use Rattle.moves.proofs.Counting.{number_asked}
use Rattle.motions.specs.Parts.{end, resting}
use Rattle.motions.specs.Spaces.{residual_of}
use Rattle.motions.specs.declared.parts.Ending.{Ending}
use Rattle.commands.specs.Commands.{carried_out, positioned_by, positioned_by_under}
use Rattle.commands.specs.Ends.{ended, motion_plan, motion_plan_under, told, told_under, told_unit}
use Rattle.commands.specs.declared.plans.Plan.{Plan}
use Rattle.storing.specs.Stored.{memory_after}
use Rattle.advance.specs.Rules.{reverse_first}
use Rattle.advance.specs.Steps.{advanced}
use Rattle.demands.specs.Done.{RunsOn, Sent}
use Rattle.demands.specs.Saying.{SpaceSays, SpacedNone, count_asked, mark_at_start}
use Rattle.demands.specs.Stops.{Over, SpaceEnded, Stopped, at_bot, at_logical_end, at_recorded_end, by_mark, mark_passed, satisfied}
use Rattle.demands.specs.Ways.{carried, header, packet, started}
use Rattle.demands.proofs.Done.{Sends, Upper, motion_sends, position_command, position_mode_lem, position_reverse, told_found, told_word, told_xst3}
use Rattle.demands.proofs.Residuals.{residual_word_lem}
use Rattle.demands.proofs.Stopping.{space_comes, space_of_none}
use Rattle.demands.proofs.Ways.{advanced_is}

-- TMK, LET and RLS stand above XST0's low byte
upper_mark : (a c : Bool) → Upper (flag_of a TMK + flag_of c RLS)
upper_mark true true = (refl, omega arith)
upper_mark true false = (refl, omega arith)
upper_mark false true = (refl, omega arith)
upper_mark false false = (refl, omega arith)

upper_end : (c : Bool) → Upper (TMK + LET + flag_of c RLS)
upper_end true = (refl, omega arith)
upper_end false = (refl, omega arith)

upper_alone : (a : Bool) → Upper (flag_of a TMK)
upper_alone true = (refl, omega arith)
upper_alone false = (refl, omega arith)

-- and an end of a Position shows no more than these
upper_stopped : {s : List ℕ} {t : Tape} {rule : Rule} {count : Count} {first : Bool} {left q : ℕ} {r : Over s t rule count first q} {class found xst3 : ℕ} → Stopped s t rule count first left q r class found xst3 → Upper found
upper_stopped (satisfied {r = r} g z) = upper_alone (mark_passed r)
upper_stopped (by_mark g more x) = (refl, omega arith)
upper_stopped {left = left} (at_logical_end g more x y) = upper_end (not (eqb left 0))
upper_stopped {left = left} (at_bot {r = r} g more x y) = upper_mark (mark_passed r) (not (eqb left 0))
upper_stopped (at_recorded_end {r = r} g more x y) = upper_alone (mark_passed r)

module _ (u : Unit) (m s : List ℕ) where
  -- the ending of a Position by a rule, and of a plan, what `SpaceSays` says of the advance
  abbrev EndedBy : Rule → Ending → Type 0
  EndedBy rule x = SpaceEnded s u.tape rule (count_asked u m s) (mark_at_start u m s) x

  record SaysBy (rule : Rule) (q : Plan) : Type 0 where
    ending : Ending
    is_ended : EndedBy rule ending
    position : q.unit.tape.position ≡ ending.tape.position
    class : q.unit.registers.class ≡ ending.end.class
    residual : word_at (memory_after q m s) (q.unit.characteristics.address + 4) ≡ residual_word ending.end.residual
    found : word_at (memory_after q m s) (q.unit.characteristics.address + 6) / 256 * 256 ≡ ending.end.found
    xst3 : word_at (memory_after q m s) (q.unit.characteristics.address + 12) ≡ ending.end.xst3

  says : (rule : Rule) (v : Unit) (ie : Bool) (x : Ending) → EndedBy rule x → Sends u m s (told v ie x) → SaysBy rule (told v ie x)
  unfolding told_under told_unit ended
  says rule v ie x k (t, room) =
      record {
        ending = x;
        is_ended = k;
        position = refl;
        class = refl;
        residual = told_word v ie x m s t room;
        found = told_found v ie x m s t room (upper_stopped k.why);
        xst3 = told_xst3 v ie x m s t room;
      }

  abbrev by_rule : Bool → Rule
  by_rule reverse = record { reverse = reverse; ess = u.characteristics.ess }

  -- a Position either way
  position_says : (reverse : Bool) → u.tape.position ≤ u.tape.end → eqb (packet u m s).count 0 ≡ false → Sends u m s (positioned_by (started u m s) s (header u m s) (count_asked u m s) reverse)
      → SaysBy (by_rule reverse) (positioned_by (started u m s) s (header u m s) (count_asked u m s) reverse)
  unfolding positioned_by_under
  position_says reverse inside some =
      let asked = rw (← number_asked (leb 2 (header u m s).mode) (packet u m s).count) at some in
      motion_sends u m s (SaysBy (by_rule reverse)) (EndedBy (by_rule reverse)) _ (started u m s) (header u m s).ie (says (by_rule reverse) (started u m s) (header u m s).ie) _
      (space_comes s u.tape (by_rule reverse) (count_asked u m s) u.characteristics.enb inside asked)

  -- what the advance is, by the way of the mode
  abbrev by_way : Bool → Plan
  by_way b = positioned_by (started u m s) s (header u m s) (count_asked u m s) b

  as_position : RunsOn u m s → (header u m s).code ≡ 8 → (header u m s).mode < 4 → advanced u m s ≡ by_way (reverse_first (header u m s))
  as_position (runs, room) code few =
      let h : Header = header u m s in
      advanced_is u m s (carried runs room) ∙ ap (carried_out (started u m s) m s h (packet u m s)) (position_command h.code h.mode code) ∙ position_mode_lem (started u m s) m s h (packet u m s) h.mode few ∙ ap by_way (sym (position_reverse h code))

  -- of every Position mode 0 to 3 with a count that was carried out and whose message went out
  pub space_says : u.tape.position ≤ u.tape.end → RunsOn u m s → (header u m s).code ≡ 8 → (header u m s).mode < 4 → eqb (packet u m s).count 0 ≡ false → Sent u m s → SpaceSays u m s (advanced u m s).unit (memory_after (advanced u m s) m s)
  space_says inside runs code few some sent =
      let rule : Rule = by_rule (reverse_first (header u m s)) in
      let k : SaysBy rule (advanced u m s) = subst (λ (x : Plan). Sends u m s x → SaysBy rule x) (sym (as_position runs code few)) (position_says (reverse_first (header u m s)) inside some) (sent.sends, sent.inside) in
      record { ending = k.ending; ended = k.is_ended; position = k.position; class = k.class; residual = k.residual; found = k.found; xst3 = k.xst3 }

  -- and with a count of 0
  abbrev NoneBy : Plan → Type 0
  NoneBy q = SpacedNone u m s q.unit (memory_after q m s)

  none_says : (ie : Bool) → how_many (count_asked u m s) ≡ 0 → Sends u m s (told (started u m s) ie (resting (end 0 0 0 (residual_of (count_asked u m s))) u.tape)) → NoneBy (told (started u m s) ie (resting (end 0 0 0 (residual_of (count_asked u m s))) u.tape))
  unfolding told_under told_unit ended
  none_says ie z (t, room) =
      let x : Ending = resting (end 0 0 0 (residual_of (count_asked u m s))) u.tape in
      record {
        unmoved = refl;
        class = refl;
        residual = told_word (started u m s) ie x m s t room ∙ residual_word_lem (count_asked u m s) ∙ z;
        found = told_found (started u m s) ie x m s t room (refl, omega arith);
        xst3 = told_xst3 (started u m s) ie x m s t room;
      }

  pub space_none : RunsOn u m s → (header u m s).code ≡ 8 → (header u m s).mode < 4 → (packet u m s).count ≡ 0 → Sent u m s → NoneBy (advanced u m s)
  unfolding positioned_by_under motion_plan_under
  space_none runs code few none sent =
      let h : Header = header u m s in
      let asked : how_many (count_asked u m s) ≡ 0 = number_asked (leb 2 h.mode) (packet u m s).count ∙ none in
      let is : advanced u m s ≡ told (started u m s) h.ie (resting (end 0 0 0 (residual_of (count_asked u m s))) u.tape) =
      as_position runs code few ∙ ap (motion_plan (started u m s) h.ie) (space_of_none s u.tape (by_rule (reverse_first h)) (count_asked u m s) u.characteristics.enb asked) in
      subst (λ (x : Plan). Sends u m s x → NoneBy x) (sym is) (none_says h.ie asked) (sent.sends, sent.inside)
