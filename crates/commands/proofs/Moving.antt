-- All commands but Write Characteristics, release and unload end as their motion does.
use mathlib.Core.Path.{◌≡◌, refl}
use mathlib.Core.List.{List, [], ◌∷◌}
use Prim.Native.Nat.{ℕ}
use denote.Enum.Declared.{tag_of}
use types.Run.{OneOf, miss}
use Rattle.std.specs.Prelude.{Some}
use Rattle.signals.specs.declared.codes.Command.{Command}
use Rattle.signals.specs.declared.codes.Command.TheVariants as command
use Rattle.signals.specs.declared.packet.Header.{Header}
use Rattle.signals.specs.declared.packet.Packet.{Packet}
use Rattle.signals.specs.contracts.codes.Command as variants
use Rattle.state.specs.declared.Unit.{Unit}
use Rattle.commands.specs.Ends.{motion_plan, motion_plan_under}
use Rattle.commands.specs.Commands.{carried_out, carried_out_under, formatted_under, motion_of, motion_of_under, plain_effect_under, positioned_by_under, read_by_under, reread_by_under, rewound_under, written_by_under}

-- by their tags: none of these three
abbrev not_characteristics : List ℕ
not_characteristics = 0 ∷ 1 ∷ 2 ∷ 3 ∷ 5 ∷ 6 ∷ 7 ∷ 8 ∷ 9 ∷ 10 ∷ 11 ∷ 12 ∷ 13 ∷ 14 ∷ 15 ∷ 16 ∷ 17 ∷ 18 ∷ 19 ∷ []

abbrev not_release : List ℕ
not_release = 0 ∷ 1 ∷ 2 ∷ 3 ∷ 4 ∷ 5 ∷ 6 ∷ 7 ∷ 8 ∷ 9 ∷ 10 ∷ 11 ∷ 12 ∷ 13 ∷ 14 ∷ 16 ∷ 17 ∷ 18 ∷ 19 ∷ []

abbrev not_unload : List ℕ
not_unload = 0 ∷ 1 ∷ 2 ∷ 3 ∷ 4 ∷ 5 ∷ 6 ∷ 7 ∷ 8 ∷ 9 ∷ 10 ∷ 11 ∷ 12 ∷ 13 ∷ 14 ∷ 15 ∷ 17 ∷ 18 ∷ 19 ∷ []

module _ (u : Unit) (m s : List ℕ) (h : Header) (p : Packet) where
  pub ends_as_moved : (c : Command) → OneOf not_characteristics (tag_of variants.the_type c) → OneOf not_release (tag_of variants.the_type c) → OneOf not_unload (tag_of variants.the_type c) → motion_plan u h.ie (motion_of u s h p c) ≡ carried_out u m s h p (Some c)
  unfolding carried_out_under motion_of_under read_by_under reread_by_under positioned_by_under written_by_under formatted_under rewound_under plain_effect_under motion_plan_under
  ends_as_moved command.ReadNext a b d = refl
  ends_as_moved command.ReadPrevious a b d = refl
  ends_as_moved command.RereadPrevious a b d = refl
  ends_as_moved command.RereadNext a b d = refl
  ends_as_moved command.WriteCharacteristics a b d = absurd (miss not_characteristics 4 tt a)
  ends_as_moved command.Write a b d = refl
  ends_as_moved command.WriteRetry a b d = refl
  ends_as_moved command.RecordsForward a b d = refl
  ends_as_moved command.RecordsReverse a b d = refl
  ends_as_moved command.MarksForward a b d = refl
  ends_as_moved command.MarksReverse a b d = refl
  ends_as_moved command.Rewind a b d = refl
  ends_as_moved command.WriteMark a b d = refl
  ends_as_moved command.Erase a b d = refl
  ends_as_moved command.MarkRetry a b d = refl
  ends_as_moved command.Release a b d = absurd (miss not_release 15 tt b)
  ends_as_moved command.Unload a b d = absurd (miss not_unload 16 tt d)
  ends_as_moved command.Clean a b d = refl
  ends_as_moved command.Initialize a b d = refl
  ends_as_moved command.GetStatus a b d = refl
