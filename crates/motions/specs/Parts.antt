-- The parts of what a command is about to do: ends, moves and blocks laid.
use Rattle.std.specs.Prelude.{false, ℕ, ◌+◌, min, Result, Ok}
use Rattle.lists.specs.Pick.{pick}
use Rattle.tape.specs.Numbers.{pieces_of}
use Rattle.signals.specs.declared.message.End.{End}
use Rattle.signals.specs.declared.counts.Residual.{Residual}
use Rattle.state.specs.declared.Tape.{Tape}
use Rattle.motions.specs.declared.parts.Moved.{Moved}
use Rattle.motions.specs.declared.parts.Laid.{Laid}
use Rattle.motions.specs.declared.parts.ObjectKind.{ObjectKind}
use Rattle.motions.specs.declared.parts.ObjectKind.TheVariants as kind
use Rattle.motions.specs.declared.parts.Ending.{Ending}
use Rattle.tape.specs.declared.Damage.{Damage}

-- an end: class, what was found for XST0, XST3, residual
abbrev pub end : ℕ → ℕ → ℕ → Residual → End
end class found xst3 left = record { class = class; found = found; xst3 = xst3; residual = left }

abbrev pub standing : ℕ → ℕ → Tape
standing p e = record { position = p; end = e }

abbrev pub no_move : Moved
no_move = record { first = 0; length = 0; reverse = false; pointer = 0; count = 0; swb = false }

abbrev pub no_lay : Laid
no_lay = record { at = 0; gap_first = false; object = kind.Nothing; pointer = 0; length = 0; swb = false }

-- an end that moves and lays nothing
abbrev pub resting : End → Tape → Ending
resting x t = record { end = x; tape = t; moved = no_move; laid = no_lay }

abbrev pub stops : End → Tape → Result Ending Damage
stops x t = Ok (resting x t)

-- the blocks of what is laid
unfoldable pub object_blocks : ObjectKind → ℕ → ℕ
object_blocks kind.Nothing n = 0
object_blocks kind.Mark n = 1
object_blocks kind.Gap n = 1
object_blocks kind.Record n = pieces_of n

-- "gap and object together" for a retry
unfoldable pub laid_blocks : Laid → ℕ
laid_blocks l = pick l.gap_first (object_blocks l.object l.length + 1) (object_blocks l.object l.length)

-- the memory bytes that a Read stores
unfoldable pub moved_length : Moved → ℕ
moved_length m = min m.length m.count
