-- Whose message goes out: of a command that was fetched and is done, unless it gives the message buffer (code 4) or is of Control (code 10, whose
-- release sends none). "A message goes out only if NBA is clear." (01)
use mathlib.Core.Bool.{Bool, true, false, ◌&&◌, not}
use mathlib.Core.List.{List}
use mathlib.Core.Path.{◌≡◌, refl}
use Prim.Native.Nat.{ℕ}
use native.Mathlib.Omega.{arith}
use lib.Dec.{eqb}
use Rattle.std.specs.Prelude.{Option, Some, None}
use Rattle.tape.proofs.Accepted.{clash}
use Rattle.signals.specs.Codes.{command_of, format_mode, position_mode, read_mode, single_mode, write_mode}
use Rattle.signals.specs.declared.codes.Command.{Command}
use Rattle.signals.specs.declared.codes.Command.TheVariants as command
use Rattle.signals.specs.declared.packet.Header.{Header}
use Rattle.signals.specs.declared.packet.Packet.{Packet}
use Rattle.state.specs.declared.Unit.{Unit}
use Rattle.state.proofs.Tests.{either}
use Rattle.motions.specs.declared.parts.Ending.{Ending}
use Rattle.std.specs.Prelude.{Ok}
use Rattle.commands.specs.Commands.{carried_out, carried_out_under, formatted_under, plain_effect_under, positioned_by_under, read_by_under, reread_by_under, rewound_under, unloaded_under, written_by_under}
use Rattle.commands.specs.Ends.{ended, motion_plan, motion_plan_under, still, told_under, told_unit}
use Rattle.commands.specs.declared.plans.Done.TheVariants as answer
use Rattle.commands.specs.declared.plans.Plan.{Plan}
use Rattle.advance.specs.Steps.{advanced}
use Rattle.demands.specs.Ways.{Fetched, Way, attention, bad_pointer, carried, header, idle, locked, lost, no_buffer, no_extent, no_header, no_words, no_execution, not_mounted, not_owned, packet, started, unknown}
use Rattle.demands.proofs.Ways.{advanced_way}
use Rattle.std.specs.Prelude.{Result, Err}
use Rattle.tape.specs.declared.Damage.{Damage}

-- the commands that end with a message where there is a buffer before them
abbrev telling : Option Command → Bool
telling (Some command.WriteCharacteristics) = false
telling (Some command.Release) = false
telling (Some command.ReadNext) = true
telling (Some command.ReadPrevious) = true
telling (Some command.RereadPrevious) = true
telling (Some command.RereadNext) = true
telling (Some command.Write) = true
telling (Some command.WriteRetry) = true
telling (Some command.RecordsForward) = true
telling (Some command.RecordsReverse) = true
telling (Some command.MarksForward) = true
telling (Some command.MarksReverse) = true
telling (Some command.Rewind) = true
telling (Some command.WriteMark) = true
telling (Some command.Erase) = true
telling (Some command.MarkRetry) = true
telling (Some command.Unload) = true
telling (Some command.Clean) = true
telling (Some command.Initialize) = true
telling (Some command.GetStatus) = true
telling None = true

abbrev Telling : Option Command → Type 0
Telling c = telling c ≡ true

telling_code : (code mode : ℕ) → eqb code 4 ≡ false → eqb code 10 ≡ false → Telling (command_of code mode)
unfolding command_of read_mode single_mode write_mode position_mode format_mode
telling_code code mode four ten =
    rw (four, ten)
    (either Telling (eqb code 1) _ _
    (either Telling (eqb mode 0) _ _ refl (either Telling (eqb mode 1) _ _ refl (either Telling (eqb mode 2) _ _ refl (either Telling (eqb mode 3) _ _ refl refl))))
    (either Telling (eqb code 5) _ _ (either Telling (eqb mode 0) _ _ refl (either Telling (eqb mode 2) _ _ refl refl))
    (either Telling (eqb code 8) _ _
    (either Telling (eqb mode 0) _ _ refl (either Telling (eqb mode 1) _ _ refl (either Telling (eqb mode 2) _ _ refl (either Telling (eqb mode 3) _ _ refl (either Telling (eqb mode 4) _ _ refl refl)))))
    (either Telling (eqb code 9) _ _ (either Telling (eqb mode 0) _ _ refl (either Telling (eqb mode 1) _ _ refl (either Telling (eqb mode 2) _ _ refl refl)))
    (either Telling (eqb code 11) _ _ (either Telling (eqb mode 0) _ _ refl refl)
    (either Telling (eqb code 15) _ _ (either Telling (eqb mode 0) _ _ refl refl) refl))))))

-- a plan that is done sends
abbrev Done : Plan → Type 0
Done x = (i : Bool) → x.answer ≡ Ok (answer.Step i) → x.sends ≡ true

module _ (v : Unit) (clear : v.registers.nba ≡ false) where
  motion_done : (ie : Bool) (y : Result Ending Damage) → Done (motion_plan v ie y)
  unfolding motion_plan_under told_under told_unit ended still
  motion_done ie (Ok x) i e = rw clear
  motion_done ie (Err d) i e = absurd (clash (cc e))

  carried_done : (m s : List ℕ) (h : Header) (p : Packet) (c : Option Command) → Telling c → Done (carried_out v m s h p c)
  unfolding carried_out_under read_by_under reread_by_under positioned_by_under written_by_under formatted_under rewound_under unloaded_under plain_effect_under told_under told_unit ended
  carried_done m s h p (Some command.ReadNext) t = motion_done h.ie _
  carried_done m s h p (Some command.ReadPrevious) t = motion_done h.ie _
  carried_done m s h p (Some command.RereadPrevious) t = motion_done h.ie _
  carried_done m s h p (Some command.RereadNext) t = motion_done h.ie _
  carried_done m s h p (Some command.WriteCharacteristics) t = absurd (clash (cc t))
  carried_done m s h p (Some command.Write) t = motion_done h.ie _
  carried_done m s h p (Some command.WriteRetry) t = motion_done h.ie _
  carried_done m s h p (Some command.RecordsForward) t = motion_done h.ie _
  carried_done m s h p (Some command.RecordsReverse) t = motion_done h.ie _
  carried_done m s h p (Some command.MarksForward) t = motion_done h.ie _
  carried_done m s h p (Some command.MarksReverse) t = motion_done h.ie _
  carried_done m s h p (Some command.Rewind) t = λ i e. rw clear
  carried_done m s h p (Some command.WriteMark) t = motion_done h.ie _
  carried_done m s h p (Some command.Erase) t = motion_done h.ie _
  carried_done m s h p (Some command.MarkRetry) t = motion_done h.ie _
  carried_done m s h p (Some command.Release) t = absurd (clash (cc t))
  carried_done m s h p (Some command.Unload) t = λ i e. rw clear
  carried_done m s h p (Some command.Clean) t = λ i e. rw clear
  carried_done m s h p (Some command.Initialize) t = λ i e. rw clear
  carried_done m s h p (Some command.GetStatus) t = λ i e. rw clear
  carried_done m s h p None t = λ i e. rw clear

-- a part that counts only where the other does not hold
both_clear : (a b : Bool) → (a && not b) ≡ false → b ≡ false → a ≡ false
both_clear true b h e = absurd (clash (cc (h, e)))
both_clear false b h e = refl

module _ (u : Unit) (m s : List ℕ) (f : Fetched u m s) (four : eqb (header u m s).code 4 ≡ false) (ten : eqb (header u m s).code 10 ≡ false) where
  clear_buffer : u.registers.nba ≡ false
  clear_buffer = both_clear u.registers.nba (eqb (header u m s).code 4) f.buffer four

  way_done : {x : Plan} → Way u m s x → Done x
  unfolding told_under told_unit ended
  way_done (idle a b) = absurd (clash (cc (a, f.begins.waits.waiting)))
  way_done (attention a b) = absurd (clash (cc (a, f.begins.waits.waiting)))
  way_done (no_header a b) = absurd (omega (arith, f.begins.waits.within))
  way_done (not_owned w a) = absurd (clash (cc (a, f.begins.owns)))
  way_done (lost w a b) = absurd (clash (cc (b, f.begins.quiet)))
  way_done (unknown b a) = λ i e. rw clear_buffer
  way_done (no_buffer b a c) = λ i e. rw clear_buffer
  way_done (no_words b a c d) = λ i e. rw clear_buffer
  way_done (bad_pointer g a) = λ i e. rw clear_buffer
  way_done (not_mounted g a b) = λ i e. rw clear_buffer
  way_done (locked g a b c) = λ i e. rw clear_buffer
  way_done (no_execution g a b c d) = λ i e. rw clear_buffer
  way_done (no_extent r a) = λ i e. rw clear_buffer
  way_done (carried r a) = carried_done (started u m s) clear_buffer m s (header u m s) (packet u m s) _ (telling_code (header u m s).code (header u m s).mode four ten)

  pub fetched_sends : (i : Bool) → (advanced u m s).answer ≡ Ok (answer.Step i) → (advanced u m s).sends ≡ true
  fetched_sends = way_done (advanced_way u m s)
