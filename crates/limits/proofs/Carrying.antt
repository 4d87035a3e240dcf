-- And so is the whole advance, unless a Write or Format waits: a unit of any limit that the reel's records keep to does what this unit does.
use mathlib.Core.Bool.{Bool, true, false}
use mathlib.Core.List.{List}
use mathlib.Core.Path.{◌≡◌, refl, ap}
use Prim.Native.Nat.{ℕ, ◌+◌, ◌≤◌}
use borrow.Author.Tests.{ltb-false}
use lib.Dec.{eqb, ltb}
use lib.ListN.{length}
use Rattle.std.specs.Prelude.{Option, Some, None}
use Rattle.tape.specs.Numbers.{record_limit}
use Rattle.tape.specs.Objects.{AllAllowedUnder, Holds, Object}
use Rattle.tape.proofs.Below.{pick_agree}
use Rattle.signals.specs.Codes.{command_of}
use Rattle.signals.specs.Header.{packet_of}
use Rattle.signals.specs.declared.codes.Command.{Command}
use Rattle.signals.specs.declared.codes.Command.TheVariants as command
use Rattle.signals.specs.declared.packet.Header.{Header}
use Rattle.signals.specs.declared.packet.Packet.{Packet}
use Rattle.state.specs.declared.Unit.{Unit}
use Rattle.state.proofs.Tests.{neither}
use Rattle.moves.specs.Counting.{marks, records}
use Rattle.moves.specs.declared.spacing.Count.{Count}
use Rattle.commands.specs.Commands.{asked, carried_out_under, positioned_by_under, read_by_under, reread_by_under}
use Rattle.commands.specs.Ends.{motion_plan_under}
use Rattle.advance.specs.Rules.{not_executable_under, writes}
use Rattle.advance.specs.Steps.{advanced_under, step_attention_under, step_executable_under, step_extent_under, step_fetch_under, step_header_under, step_illegal_under, step_no_buffer_under, step_owner_under, step_pointer_under, step_volume_under}
use Rattle.demands.specs.Ways.{Waits, header, started}
use Rattle.kept.proofs.Unwriting.{Unwriting, unwriting}
use Rattle.limits.proofs.Moving.{position_under, read_under, reread_under_lem}

module _ (s m : List ℕ) {os : List Object} (limit eotMargin : ℕ) (all : AllAllowedUnder limit os) where
  -- the reel is well formed up to the tape's end, and the tape stands no further
  abbrev Stands : Unit → Type 0
  Stands v = Holds s v.tape.end os × (v.tape.position ≤ v.tape.end)

  module _ (v : Unit) (k : Stands v) (h : Header) where
    module _ (p : Packet) where
      read_same : (reverse : Bool) → read_by_under limit eotMargin v s h p reverse ≡ read_by_under record_limit eotMargin v s h p reverse
      unfolding read_by_under
      read_same reverse = ap (motion_plan_under eotMargin v h.ie) (read_under k.0 limit all (asked h p) v.tape.position reverse k.1)

      reread_same : (reverse : Bool) → reread_by_under limit eotMargin v s h p reverse ≡ reread_by_under record_limit eotMargin v s h p reverse
      unfolding reread_by_under
      reread_same reverse = ap (motion_plan_under eotMargin v h.ie) (reread_under_lem k.0 limit all (asked h p) v.tape.position reverse h.opp k.1)

      position_same : (count : Count) (reverse : Bool) → positioned_by_under limit eotMargin v s h count reverse ≡ positioned_by_under record_limit eotMargin v s h count reverse
      unfolding positioned_by_under
      position_same count reverse = ap (motion_plan_under eotMargin v h.ie) (position_under k.0 limit all v.tape.position _ count v.characteristics.enb k.1)

      carried_same : (c : Option Command) → Unwriting c → carried_out_under limit eotMargin v m s h p c ≡ carried_out_under record_limit eotMargin v m s h p c
      unfolding carried_out_under
      carried_same (Some command.ReadNext) r = read_same false
      carried_same (Some command.ReadPrevious) r = read_same true
      carried_same (Some command.RereadPrevious) r = reread_same true
      carried_same (Some command.RereadNext) r = reread_same false
      carried_same (Some command.WriteCharacteristics) r = refl
      carried_same (Some command.Write) r = absurd r
      carried_same (Some command.WriteRetry) r = absurd r
      carried_same (Some command.RecordsForward) r = position_same (records p.count) false
      carried_same (Some command.RecordsReverse) r = position_same (records p.count) true
      carried_same (Some command.MarksForward) r = position_same (marks p.count) false
      carried_same (Some command.MarksReverse) r = position_same (marks p.count) true
      carried_same (Some command.Rewind) r = refl
      carried_same (Some command.WriteMark) r = absurd r
      carried_same (Some command.Erase) r = absurd r
      carried_same (Some command.MarkRetry) r = absurd r
      carried_same (Some command.Release) r = refl
      carried_same (Some command.Unload) r = refl
      carried_same (Some command.Clean) r = refl
      carried_same (Some command.Initialize) r = refl
      carried_same (Some command.GetStatus) r = refl
      carried_same None r = refl

      -- step 10
      extent_same : writes h ≡ false → step_extent_under limit eotMargin v m s h p ≡ step_extent_under record_limit eotMargin v m s h p
      unfolding step_extent_under
      extent_same w = rw (carried_same (command_of h.code h.mode) (unwriting h w))

      -- step 9: no length is written
      executable_same : writes h ≡ false → not_executable_under limit v h p ≡ not_executable_under record_limit v h p
      unfolding not_executable_under
      executable_same w = rw (neither (eqb h.code 5) (eqb h.code 9) w).0

      pointer_same : writes h ≡ false → step_pointer_under limit eotMargin v m s h p ≡ step_pointer_under record_limit eotMargin v m s h p
      unfolding step_pointer_under step_executable_under
      pointer_same w = rw (executable_same w, extent_same w)

    -- steps 5 to 8
    illegal_same : writes h ≡ false → step_illegal_under limit eotMargin v m s h ≡ step_illegal_under record_limit eotMargin v m s h
    unfolding step_illegal_under step_no_buffer_under step_fetch_under
    illegal_same w = rw (pointer_same (packet_of m v.registers.pointer h.code) w)

  -- steps 1 to 4, and no command waiting
  pub advanced_same : (u : Unit) → Stands u → (Waits u m s → writes (header u m s) ≡ false) → advanced_under limit eotMargin u m s ≡ advanced_under record_limit eotMargin u m s
  unfolding advanced_under step_header_under step_owner_under step_attention_under step_volume_under
  advanced_same u k w =
      pick_agree u.registers.ssr _ _ _ _ (λ a. refl)
      (λ a. pick_agree (ltb (length m) (u.registers.pointer + 2)) _ _ _ _ (λ b. refl)
      (λ b. rw (illegal_same (started u m s) k (header u m s) (w (record { waiting = a; within = ltb-false (length m) _ b })))))
