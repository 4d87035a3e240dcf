-- The plan of an advance does not depend on the rest of memory: step by step, last first.
use mathlib.Core.Bool.{true}
use mathlib.Core.List.{List}
use mathlib.Core.Path.{◌≡◌, refl}
use Prim.Native.Nat.{ℕ}
use denote.Enum.Declared.{tag_of}
use lib.Dec.{eqb}
use lib.ListN.{length}
use Rattle.std.specs.Prelude.{Option, Some, None}
use Rattle.tape.proofs.Below.{pick_agree}
use Rattle.signals.specs.Codes.{command_of}
use Rattle.signals.specs.Header.{packet_of}
use Rattle.signals.specs.declared.codes.Command.{Command}
use Rattle.signals.specs.declared.codes.Command.TheVariants as command
use Rattle.signals.specs.declared.packet.Header.{Header}
use Rattle.signals.specs.declared.packet.Packet.{Packet}
use Rattle.signals.specs.contracts.codes.Command as variants
use Rattle.state.specs.declared.Unit.{Unit}
use Rattle.commands.specs.Commands.{carried_out, carried_out_under}
use Rattle.advance.specs.Steps.{advanced, advanced_under, step_attention_under, step_executable_under, step_extent, step_extent_under, step_fetch_under, step_header_under, step_illegal, step_illegal_under, step_no_buffer_under, step_owner_under, step_pointer, step_pointer_under, step_volume_under}
use Rattle.demands.specs.Ways.{started}
use Rattle.isolation.specs.Reads.{SameRead, header_at, of_characteristics}
use Rattle.isolation.proofs.Characterizing.{SameData, characterized_same}
use Rattle.isolation.proofs.Coding.{characterizes, code_four}
use Rattle.isolation.proofs.Packets.{header_same, packet_same}
use Rattle.isolation.proofs.Readings.{reads_same}

module _ (m m' s : List ℕ) (long : length m ≡ length m') where
  module _ (v : Unit) (h : Header) where
    module _ (p : Packet) where
      -- the others are planned from state, reel and packet alone
      carried_same : (c : Option Command) → (characterizes c ≡ true → SameData m m' p) → carried_out v m s h p c ≡ carried_out v m' s h p c
      unfolding carried_out_under
      carried_same (Some command.ReadNext) f = refl
      carried_same (Some command.ReadPrevious) f = refl
      carried_same (Some command.RereadPrevious) f = refl
      carried_same (Some command.RereadNext) f = refl
      carried_same (Some command.WriteCharacteristics) f = characterized_same m m' p (f refl) long v h.ie
      carried_same (Some command.Write) f = refl
      carried_same (Some command.WriteRetry) f = refl
      carried_same (Some command.RecordsForward) f = refl
      carried_same (Some command.RecordsReverse) f = refl
      carried_same (Some command.MarksForward) f = refl
      carried_same (Some command.MarksReverse) f = refl
      carried_same (Some command.Rewind) f = refl
      carried_same (Some command.WriteMark) f = refl
      carried_same (Some command.Erase) f = refl
      carried_same (Some command.MarkRetry) f = refl
      carried_same (Some command.Release) f = refl
      carried_same (Some command.Unload) f = refl
      carried_same (Some command.Clean) f = refl
      carried_same (Some command.Initialize) f = refl
      carried_same (Some command.GetStatus) f = refl
      carried_same None f = refl

      -- steps 10 to 8
      extent_same : (h.code ≡ 4 → SameData m m' p) → step_extent v m s h p ≡ step_extent v m' s h p
      unfolding step_extent_under
      extent_same f = rw (long, carried_same (command_of h.code h.mode) (λ t. f (code_four h.code h.mode t)))

      pointer_same : (h.code ≡ 4 → SameData m m' p) → step_pointer v m s h p ≡ step_pointer v m' s h p
      unfolding step_pointer_under step_executable_under
      pointer_same f = rw (extent_same f)

    -- steps 7 to 5: where the packets are the same
    illegal_same : packet_of m v.registers.pointer h.code ≡ packet_of m' v.registers.pointer h.code → (h.code ≡ 4 → SameData m m' (packet_of m' v.registers.pointer h.code)) → step_illegal v m s h ≡ step_illegal v m' s h
    unfolding step_illegal_under step_no_buffer_under step_fetch_under
    illegal_same e f = rw (long, e, pointer_same (packet_of m' v.registers.pointer h.code) f)

-- steps 4 to 1, and no command waiting
pub plans_alike : (u : Unit) (m m' s : List ℕ) → SameRead u m m' → advanced u m s ≡ advanced u m' s
unfolding advanced_under step_header_under step_owner_under step_attention_under step_volume_under
plans_alike u m m' s r =
    pick_agree u.registers.ssr _ _ _ _ (λ a. refl)
    (λ w. rw (r.long, header_same r w, illegal_same m m' s r.long (started u m' s) (header_at u m') (packet_same r w (header_at u m').code) (λ c i h. r.bytes _ (reads_same r _ (of_characteristics {i = i} w c h refl)))))
