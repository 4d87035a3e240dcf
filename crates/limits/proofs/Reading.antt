-- The whole advance under two margins, of a unit of any record limit on any reel, unless a Write or Format waits.
use mathlib.Core.Bool.{Bool, true, false, ◌||◌, ◌&&◌, not}
use mathlib.Core.List.{List}
use mathlib.Core.Path.{◌≡◌, refl}
use Prim.Native.Nat.{ℕ, ◌+◌, ◌%◌, ◌≤◌}
use borrow.Author.Tests.{ltb-false}
use lib.Dec.{eqb, leb, ltb}
use lib.ListN.{length}
use Rattle.std.specs.Prelude.{Option, Some, None}
use Rattle.signals.specs.Bits.{ILA, ILC, NEF, WLE}
use Rattle.signals.specs.Codes.{command_of}
use Rattle.signals.specs.Header.{packet_of}
use Rattle.signals.specs.Numbers.{packet_bytes, pointer_limit}
use Rattle.signals.specs.declared.codes.Command.{Command}
use Rattle.signals.specs.declared.codes.Command.TheVariants as command
use Rattle.signals.specs.declared.counts.Residual.{Residual}
use Rattle.signals.specs.declared.packet.Header.{Header}
use Rattle.signals.specs.declared.packet.Packet.{Packet}
use Rattle.state.specs.Checks.{buffer_wrong}
use Rattle.state.specs.declared.Characteristics.{Characteristics}
use Rattle.state.specs.declared.Unit.{Unit}
use Rattle.moves.specs.Counting.{marks, records}
use Rattle.moves.specs.declared.spacing.Count.{Count}
use Rattle.commands.specs.Commands.{asked, carried_out_under, characteristics_at, characterized_under, plain_effect_under, positioned_by_under, read_by_under, refused_characteristics_under, released, reread_by_under, rewound_under, taken_characteristics_under, unloaded_under}
use Rattle.advance.specs.Rules.{has_extent, is_illegal, is_tape, not_executable_under, writes}
use Rattle.advance.specs.Steps.{advanced_under, attended_under, rejected_under, step_attention_under, step_executable_under, step_extent_under, step_fetch_under, step_header_under, step_illegal_under, step_no_buffer_under, step_owner_under, step_pointer_under, step_volume_under}
use Rattle.demands.specs.Ways.{Waits, header, started}
use Rattle.kept.proofs.Unwriting.{Unwriting, unwriting}
use Rattle.limits.specs.Alike.{ReadsAlike}
use Rattle.limits.proofs.Shown.{position_even, read_even, reread_even}
use Rattle.limits.proofs.Telling.{motion_alike, pick_alike, still_alike, told_alike, told_which, untold_alike}

module _ (s m : List ℕ) (limit eotMargin eotMargin' : ℕ) (more : eotMargin ≤ eotMargin') where
  rejected_alike : (u : Unit) (ie : Bool) (class found : ℕ) (left : Residual) → found % 2 ≡ 0 → ReadsAlike (rejected_under eotMargin u ie class found left) (rejected_under eotMargin' u ie class found left)
  unfolding rejected_under
  rejected_alike u ie class found left h = told_alike eotMargin eotMargin' more u ie _ h

  attended_alike : (u : Unit) (ie : Bool) → ReadsAlike (attended_under eotMargin u ie) (attended_under eotMargin' u ie)
  unfolding attended_under
  attended_alike u ie = rejected_alike _ ie 1 0 _ refl

  module _ (v : Unit) (h : Header) where
    module _ (p : Packet) where
      read_alike : (reverse : Bool) → ReadsAlike (read_by_under limit eotMargin v s h p reverse) (read_by_under limit eotMargin' v s h p reverse)
      unfolding read_by_under
      read_alike reverse = motion_alike eotMargin eotMargin' more v h.ie _ (read_even limit s (asked h p) v.tape reverse)

      reread_alike : (reverse : Bool) → ReadsAlike (reread_by_under limit eotMargin v s h p reverse) (reread_by_under limit eotMargin' v s h p reverse)
      unfolding reread_by_under
      reread_alike reverse = motion_alike eotMargin eotMargin' more v h.ie _ (reread_even limit s (asked h p) v.tape reverse h.opp)

      position_alike : (count : Count) (reverse : Bool) → ReadsAlike (positioned_by_under limit eotMargin v s h count reverse) (positioned_by_under limit eotMargin' v s h count reverse)
      unfolding positioned_by_under
      position_alike count reverse = motion_alike eotMargin eotMargin' more v h.ie _ (position_even limit s v.tape _ count v.characteristics.enb)

      refused_alike : ReadsAlike (refused_characteristics_under eotMargin v h.ie) (refused_characteristics_under eotMargin' v h.ie)
      unfolding refused_characteristics_under
      refused_alike = told_alike eotMargin eotMargin' more _ h.ie _ refl

      taken_alike : (c : Characteristics) → ReadsAlike (taken_characteristics_under eotMargin v c h.ie) (taken_characteristics_under eotMargin' v c h.ie)
      unfolding taken_characteristics_under
      taken_alike c = told_alike eotMargin eotMargin' more _ h.ie _ refl

      characterized_alike : ReadsAlike (characterized_under eotMargin v m p h.ie) (characterized_under eotMargin' v m p h.ie)
      unfolding characterized_under
      characterized_alike =
          let c = characteristics_at m p in
          pick_alike (ltb p.count 6) refused_alike (pick_alike (leb pointer_limit c.address || buffer_wrong c (length m)) refused_alike (taken_alike c))

      plain_alike : ReadsAlike (plain_effect_under eotMargin v h.ie) (plain_effect_under eotMargin' v h.ie)
      unfolding plain_effect_under
      plain_alike = told_alike eotMargin eotMargin' more v h.ie _ refl

      rewound_alike : ReadsAlike (rewound_under eotMargin v h.ie) (rewound_under eotMargin' v h.ie)
      unfolding rewound_under
      rewound_alike = told_alike eotMargin eotMargin' more v h.ie _ refl

      unloaded_alike : ReadsAlike (unloaded_under eotMargin v h.ie) (unloaded_under eotMargin' v h.ie)
      unfolding unloaded_under
      unloaded_alike = told_alike eotMargin eotMargin' more _ h.ie _ refl

      released_alike : ReadsAlike (released v h.ie) (released v h.ie)
      unfolding released
      released_alike = untold_alike _ 0 false

      carried_alike : (c : Option Command) → Unwriting c → ReadsAlike (carried_out_under limit eotMargin v m s h p c) (carried_out_under limit eotMargin' v m s h p c)
      unfolding carried_out_under
      carried_alike (Some command.ReadNext) r = read_alike false
      carried_alike (Some command.ReadPrevious) r = read_alike true
      carried_alike (Some command.RereadPrevious) r = reread_alike true
      carried_alike (Some command.RereadNext) r = reread_alike false
      carried_alike (Some command.WriteCharacteristics) r = characterized_alike
      carried_alike (Some command.Write) r = absurd r
      carried_alike (Some command.WriteRetry) r = absurd r
      carried_alike (Some command.RecordsForward) r = position_alike (records p.count) false
      carried_alike (Some command.RecordsReverse) r = position_alike (records p.count) true
      carried_alike (Some command.MarksForward) r = position_alike (marks p.count) false
      carried_alike (Some command.MarksReverse) r = position_alike (marks p.count) true
      carried_alike (Some command.Rewind) r = rewound_alike
      carried_alike (Some command.WriteMark) r = absurd r
      carried_alike (Some command.Erase) r = absurd r
      carried_alike (Some command.MarkRetry) r = absurd r
      carried_alike (Some command.Release) r = released_alike
      carried_alike (Some command.Unload) r = unloaded_alike
      carried_alike (Some command.Clean) r = plain_alike
      carried_alike (Some command.Initialize) r = plain_alike
      carried_alike (Some command.GetStatus) r = plain_alike
      carried_alike None r = plain_alike

      -- steps 8 to 10
      pointer_alike : writes h ≡ false → ReadsAlike (step_pointer_under limit eotMargin v m s h p) (step_pointer_under limit eotMargin' v m s h p)
      unfolding step_pointer_under step_executable_under step_extent_under
      pointer_alike w =
          pick_alike (p.high || (eqb h.code 4 && eqb (p.pointer % 2) 1)) (rejected_alike v h.ie 3 ILA _ refl)
          (pick_alike (is_tape h && (not v.panel.online || v.panel.vck)) (rejected_alike v h.ie 3 NEF _ refl)
          (pick_alike (writes h && v.panel.locked) (rejected_alike v h.ie 3 (NEF + WLE) _ refl)
          (pick_alike (not_executable_under limit v h p) (rejected_alike v h.ie 3 NEF _ refl)
          (pick_alike (has_extent h && ltb (length m) (p.pointer + p.count)) (rejected_alike v h.ie 5 0 _ refl)
          (carried_alike (command_of h.code h.mode) (unwriting h w))))))

    -- steps 5 to 7
    illegal_alike : writes h ≡ false → ReadsAlike (step_illegal_under limit eotMargin v m s h) (step_illegal_under limit eotMargin' v m s h)
    unfolding step_illegal_under step_no_buffer_under step_fetch_under
    illegal_alike w =
        pick_alike (not h.plain || is_illegal (command_of h.code h.mode)) (rejected_alike v h.ie 3 ILC _ refl)
        (pick_alike (v.registers.nba && not (eqb h.code 4)) (rejected_alike v h.ie 3 0 _ refl)
        (pick_alike (ltb (length m) (v.registers.pointer + packet_bytes)) (rejected_alike v h.ie 5 0 _ refl)
        (pointer_alike (packet_of m v.registers.pointer h.code) w)))

  -- steps 2 to 4
  waits_alike : (u : Unit) → writes (header u m s) ≡ false → ReadsAlike (step_owner_under limit eotMargin u m s (header u m s)) (step_owner_under limit eotMargin' u m s (header u m s))
  unfolding step_owner_under step_attention_under step_volume_under
  waits_alike u w =
      pick_alike (u.attention.unit_owns || (header u m s).ack)
      (pick_alike u.attention.pending (attended_alike _ (header u m s).ie) (illegal_alike (started u m s) (header u m s) w))
      (untold_alike _ 0 (header u m s).ie)

  -- step 1, and no command waiting
  pub margins_alike : (u : Unit) → (Waits u m s → writes (header u m s) ≡ false) → ReadsAlike (advanced_under limit eotMargin u m s) (advanced_under limit eotMargin' u m s)
  unfolding advanced_under step_header_under
  margins_alike u w =
      told_which u.registers.ssr (λ a. pick_alike (u.attention.pending && u.attention.unit_owns) (attended_alike u u.attention.release_ie) (still_alike u _))
      (λ a. told_which (ltb (length m) (u.registers.pointer + 2)) (λ b. untold_alike u 5 false)
      (λ b. waits_alike u (w (record { waiting = a; within = ltb-false (length m) _ b }))))
