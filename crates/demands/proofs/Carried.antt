-- Every command and mode of the table is carried out as itself.
use mathlib.Core.List.{List}
use mathlib.Core.Path.{refl}
use Prim.Native.Nat.{ℕ}
use Rattle.signals.specs.Codes.{command_of, control_mode, format_mode, position_mode, read_mode, single_mode, write_mode}
use Rattle.signals.specs.declared.packet.Header.{Header}
use Rattle.signals.specs.declared.packet.Packet.{Packet}
use Rattle.state.specs.declared.Unit.{Unit}
use Rattle.commands.specs.Commands.{carried_out_under, formatted_under, plain_effect_under, positioned_by_under, read_by_under, reread_by_under, rewound_under, written_by_under}
use Rattle.demands.specs.Commands.{Carried}

pub carried_as : (u : Unit) (m s : List ℕ) (h : Header) (p : Packet) → Carried u m s h p
unfolding command_of control_mode format_mode position_mode read_mode single_mode write_mode carried_out_under formatted_under plain_effect_under positioned_by_under read_by_under reread_by_under rewound_under written_by_under
carried_as u m s h p =
    record {
      read_next = refl;
      read_previous = refl;
      reread_previous = refl;
      reread_next = refl;
      write_characteristics = refl;
      write_next = refl;
      write_retry = refl;
      records_forward = refl;
      records_reverse = refl;
      marks_forward = refl;
      marks_reverse = refl;
      rewind = refl;
      write_mark = refl;
      erase = refl;
      mark_retry = refl;
      release = refl;
      unload = refl;
      clean = refl;
      initialize = refl;
      get_status = refl;
    }
