-- Which commands a step speaks of, by code and mode. (01, "Advance, in order", steps 5 to 10)
use Rattle.std.specs.Prelude.{Option, Some, None, Bool, true, false, ◌||◌, ◌&&◌, ℕ, eqb, ltb}
use Rattle.lists.specs.Pick.{pick}
use Rattle.tape.specs.Numbers.{record_limit}
use Rattle.signals.specs.declared.codes.Command.{Command}
use Rattle.signals.specs.Header.{has_pointer}
use Rattle.signals.specs.declared.packet.Header.{Header}
use Rattle.signals.specs.declared.packet.Packet.{Packet}
use Rattle.signals.specs.declared.counts.Residual.{Residual}
use Rattle.signals.specs.declared.counts.Residual.TheVariants as residual
use Rattle.state.specs.declared.Unit.{Unit}

-- "The residual counts bytes for Read, records or marks for Position modes 0 to 3 .. Ended at steps 8 to 10 they give the whole count"
unfoldable pub whole_count : Header → ℕ → Residual
whole_count h count =
    pick (eqb h.code 1) (residual.Bytes (record { 0 = count }))
    (pick (eqb h.code 8 && ltb h.mode 2) (residual.Records (record { 0 = count }))
    (pick (eqb h.code 8 && ltb h.mode 4) (residual.Marks (record { 0 = count })) residual.Nothing))

-- "Tape command (Read, Write, Position, Format, rewind and unload)"
abbrev pub is_tape : Header → Bool
is_tape h =
    (((eqb h.code 1 || eqb h.code 5) || eqb h.code 8) || eqb h.code 9) || (eqb h.code 10 && eqb h.mode 1)

-- "Write or Format"
abbrev pub writes : Header → Bool
writes h = eqb h.code 5 || eqb h.code 9

-- "reverse first stage .. (not a rewind)"
abbrev pub reverse_first : Header → Bool
reverse_first h =
    (((eqb h.code 1 && (eqb h.mode 1 || eqb h.mode 2)) || (eqb h.code 5 && eqb h.mode 2))
    || (eqb h.code 8 && (eqb h.mode 1 || eqb h.mode 3)))
    || (eqb h.code 9 && eqb h.mode 2)

-- "Codes 1, 4, 5: data extent"
abbrev pub has_extent : Header → Bool
has_extent h = has_pointer h.code

-- "unknown code or mode"
unfoldable pub is_illegal : Option Command → Bool
is_illegal None = true
is_illegal (Some c) = false

-- under any record limit
module _ (limit : ℕ) where
  -- "a written length out of range"
  abbrev pub length_wrong_under : Header → ℕ → Bool
  length_wrong_under h count = eqb h.code 5 && (eqb count 0 || ltb limit count)

  -- "reverse first stage at block 0 (not a rewind), NEF; a written length out of range, NEF"
  unfoldable pub not_executable_under : Unit → Header → Packet → Bool
  not_executable_under u h p = (reverse_first h && eqb u.tape.position 0) || length_wrong_under h p.count

-- and under this unit's own
abbrev pub length_wrong : Header → ℕ → Bool
length_wrong = length_wrong_under record_limit

abbrev pub not_executable : Unit → Header → Packet → Bool
not_executable = not_executable_under record_limit
