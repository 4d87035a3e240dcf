-- Every command that is carried out keeps what a plan has to keep.
use mathlib.Core.Bool.{Bool, true, false, ◌||◌, true≢false}
use mathlib.Core.List.{List}
use mathlib.Core.Path.{◌≡◌, refl}
use Prim.Native.Nat.{ℕ, ◌+◌, ◌≤◌}
use native.Mathlib.Omega.{arith}
use lib.Dec.{leb, ltb}
use lib.ListN.{length}
use Rattle.std.specs.Prelude.{Option, Some, None}
use Rattle.lists.proofs.Cases.{pick_told}
use Rattle.signals.specs.Numbers.{pointer_limit}
use Rattle.signals.specs.declared.codes.Command.{Command}
use Rattle.signals.specs.declared.codes.Command.TheVariants as command
use Rattle.signals.specs.declared.message.End.{End}
use Rattle.signals.specs.declared.packet.Header.{Header}
use Rattle.signals.specs.declared.packet.Packet.{Packet}
use Rattle.signals.specs.declared.counts.Residual.TheVariants as residual
use Rattle.state.specs.Checks.{buffer_wrong, last_class}
use Rattle.state.specs.Legal.{BufferFits, Legal}
use Rattle.state.specs.declared.Characteristics.{Characteristics}
use Rattle.state.specs.declared.Unit.{Unit}
use Rattle.state.proofs.Legal.{buffer_right, legal_panel, legal_with}
use Rattle.state.proofs.Tests.{either, neither}
use Rattle.moves.specs.Counting.{marks, records}
use Rattle.moves.specs.declared.spacing.Count.{Count}
use Rattle.motions.specs.Parts.{end, resting, standing}
use Rattle.motions.specs.declared.parts.Laid.{Laid}
use Rattle.motions.specs.declared.parts.Ending.{Ending}
use Rattle.motions.specs.declared.parts.ObjectKind.{ObjectKind}
use Rattle.motions.specs.declared.parts.ObjectKind.TheVariants as kind
use Rattle.motions.specs.declared.reads.Buffer.{Buffer}
use Rattle.motions.proofs.Fit.{ReadFits, SpaceFits, WriteFits, read_one_fits, reread_fits, retry_fits, space_fits, write_fits}
use Rattle.commands.specs.Commands.{asked, carried_out, carried_out_under, characteristics_at, characterized, characterized_under, formatted, formatted_under, laid_here, laying, plain_effect, plain_effect_under, plain_end, positioned_by, positioned_by_under, read_by, read_by_under, refused_characteristics, refused_characteristics_under, released, reread_by, reread_by_under, rewound, rewound_under, taken_characteristics, taken_characteristics_under, unloaded, unloaded_under, with_characteristics, with_nba, written_by, written_by_under}
use Rattle.commands.specs.Ends.{told}
use Rattle.advance.proofs.Extents.{has_data}
use Rattle.advance.proofs.Sound.{EndingFits, SoundPlan, motion_sound, no_lay_fits, no_move_fits, resting_fits, told_sound, untold_sound}
use Rattle.std.specs.Prelude.{Ok}

module _ (u : Unit) (l : Legal u) where
  -- a Read inside the recorded end is inside the reel
  read_moves : (r : Buffer) → r.pointer + r.count.0 ≤ u.lengths.memory → (x : Ending) → ReadFits u.tape.end r x → EndingFits u.lengths x
  read_moves r h x f =
      record {
        place = f.place;
        capacity = rw f.kept l.capacity;
        class = f.told.class;
        moved = record { room = omega (arith, f.source, l.capacity); target = omega (arith, f.buffer, h) };
        laid = rw f.unlaid (no_lay_fits u.lengths);
      }

  space_moves : (x : Ending) → SpaceFits u.tape.end x → EndingFits u.lengths x
  space_moves x f =
      record {
        place = f.place;
        capacity = rw f.kept l.capacity;
        class = f.told.class;
        moved = rw f.unmoved (no_move_fits u.lengths);
        laid = rw f.unlaid (no_lay_fits u.lengths);
      }

  write_moves : (n : Laid) → n.pointer + n.length ≤ u.lengths.memory → (x : Ending) → WriteFits u.lengths.blocks n x → EndingFits u.lengths x
  write_moves n h x f =
      record {
        place = f.place;
        capacity = f.inside;
        class = f.told.class;
        moved = rw f.unmoved (no_move_fits u.lengths);
        laid = record { room = f.room; source = omega (arith, f.source, h) };
      }

  module _ (s : List ℕ) (h : Header) (p : Packet) where
    read_sound : (reverse : Bool) → p.pointer + p.count ≤ u.lengths.memory → SoundPlan u (read_by u s h p reverse)
    unfolding read_by_under
    read_sound reverse k =
        motion_sound u l h.ie _ (λ x y. read_moves (asked h p) k x (read_one_fits s u.tape l.place (asked h p) reverse y))

    reread_sound : (reverse : Bool) → p.pointer + p.count ≤ u.lengths.memory → SoundPlan u (reread_by u s h p reverse)
    unfolding reread_by_under
    reread_sound reverse k =
        motion_sound u l h.ie _ (λ x y. read_moves (asked h p) k x (reread_fits s u.tape l.place (asked h p) reverse h.opp y))

  position_sound : (s : List ℕ) (h : Header) (count : Count) (reverse : Bool) → SoundPlan u (positioned_by u s h count reverse)
  unfolding positioned_by_under
  position_sound s h count reverse =
      motion_sound u l h.ie _ (λ x y. space_moves x (space_fits s u.tape l.place _ count u.characteristics.enb y))

  -- a write, or a retry
  lay_moves : (s : List ℕ) (n : Laid) (mark again : Bool) → n.pointer + n.length ≤ u.lengths.memory → (x : Ending) → laying s u.tape u.lengths.blocks n mark again ≡ Ok x → EndingFits u.lengths x
  lay_moves s n mark true k x y = write_moves n k x (retry_fits u.tape u.lengths.blocks l.place l.capacity n mark s y)
  lay_moves s n mark false k x y = write_moves n k x (write_fits u.tape u.lengths.blocks l.place l.capacity n mark y)

  write_sound : (s : List ℕ) (h : Header) (p : Packet) (again : Bool) → p.pointer + p.count ≤ u.lengths.memory → SoundPlan u (written_by u s h p again)
  unfolding written_by_under
  write_sound s h p again k =
      motion_sound u l h.ie _ (lay_moves s (laid_here u.tape kind.Record p.pointer p.count h.swb) false again k)

  format_sound : (s : List ℕ) (h : Header) (o : ObjectKind) (mark again : Bool) → SoundPlan u (formatted u s h o mark again)
  unfolding formatted_under
  format_sound s h o mark again =
      motion_sound u l h.ie _ (lay_moves s (laid_here u.tape o 0 0 false) mark again (omega arith))

  module _ (ie : Bool) where
    -- an end where the tape stands, in a state with the same lengths
    stands_sound : (v : Unit) → Legal v → (x : End) → x.class ≤ last_class → SoundPlan v (told v ie (resting x v.tape))
    stands_sound v k x h = told_sound v k ie _ (resting_fits v.lengths x v.tape k.place k.capacity h)

    plain_sound : SoundPlan u (plain_effect u ie)
    unfolding plain_effect_under
    plain_sound = stands_sound u l plain_end (omega arith)

    release_sound : SoundPlan u (released u ie)
    unfolding released
    release_sound = untold_sound _ (legal_panel u _ _ l) 0 false (omega arith)

    -- at block 0
    rewinds : (v : Unit) → Legal v → SoundPlan v (told v ie (resting plain_end (standing 0 v.tape.end)))
    rewinds v k = told_sound v k ie _ (resting_fits v.lengths plain_end (standing 0 v.tape.end) (omega arith) k.capacity (omega arith))

    rewind_sound : SoundPlan u (rewound u ie)
    unfolding rewound_under
    rewind_sound = rewinds u l

    unload_sound : SoundPlan u (unloaded u ie)
    unfolding unloaded_under
    unload_sound = rewinds _ (legal_panel u _ _ l)

    -- no buffer is named
    refused_sound : SoundPlan u (refused_characteristics u ie)
    unfolding refused_characteristics_under
    refused_sound =
        stands_sound (with_nba u true)
        (legal_with u (with_nba u true) l refl l.place l.capacity l.pointer l.class (λ e. absurd (true≢false e)))
        (end 3 0 0 residual.Nothing)
        (omega arith)

    taken_sound : (c : Characteristics) → BufferFits c u.lengths.memory → SoundPlan u (taken_characteristics u c ie)
    unfolding taken_characteristics_under
    taken_sound c f =
        stands_sound (with_characteristics (with_nba u false) c)
        (legal_with u (with_characteristics (with_nba u false) c) l refl l.place l.capacity l.pointer l.class (λ e. f))
        plain_end
        (omega arith)

    characterize_sound : (m : List ℕ) (p : Packet) → length m ≡ u.lengths.memory → SoundPlan u (characterized u m p ie)
    unfolding characterized_under
    characterize_sound m p e =
        let c = characteristics_at m p in
        either (SoundPlan u) (ltb p.count 6) _ _ refused_sound
        (pick_told (SoundPlan u) (leb pointer_limit c.address || buffer_wrong c (length m)) _ _
        (λ t. refused_sound)
        (λ t. taken_sound c (rw (← e) (buffer_right c (length m) (neither (leb pointer_limit c.address) (buffer_wrong c (length m)) t).1))))

-- the data of a command that has any lie inside memory
pub carried_sound : (u : Unit) → Legal u → (m s : List ℕ) (h : Header) (p : Packet) → length m ≡ u.lengths.memory → (c : Option Command) → (has_data c ≡ true → p.pointer + p.count ≤ u.lengths.memory) → SoundPlan u (carried_out u m s h p c)
unfolding carried_out_under
carried_sound u l m s h p e (Some command.ReadNext) k = read_sound u l s h p false (k refl)
carried_sound u l m s h p e (Some command.ReadPrevious) k = read_sound u l s h p true (k refl)
carried_sound u l m s h p e (Some command.RereadPrevious) k = reread_sound u l s h p true (k refl)
carried_sound u l m s h p e (Some command.RereadNext) k = reread_sound u l s h p false (k refl)
carried_sound u l m s h p e (Some command.WriteCharacteristics) k = characterize_sound u l h.ie m p e
carried_sound u l m s h p e (Some command.Write) k = write_sound u l s h p false (k refl)
carried_sound u l m s h p e (Some command.WriteRetry) k = write_sound u l s h p true (k refl)
carried_sound u l m s h p e (Some command.RecordsForward) k = position_sound u l s h (records p.count) false
carried_sound u l m s h p e (Some command.RecordsReverse) k = position_sound u l s h (records p.count) true
carried_sound u l m s h p e (Some command.MarksForward) k = position_sound u l s h (marks p.count) false
carried_sound u l m s h p e (Some command.MarksReverse) k = position_sound u l s h (marks p.count) true
carried_sound u l m s h p e (Some command.Rewind) k = rewind_sound u l h.ie
carried_sound u l m s h p e (Some command.WriteMark) k = format_sound u l s h kind.Mark true false
carried_sound u l m s h p e (Some command.Erase) k = format_sound u l s h kind.Gap false false
carried_sound u l m s h p e (Some command.MarkRetry) k = format_sound u l s h kind.Mark true true
carried_sound u l m s h p e (Some command.Release) k = release_sound u l h.ie
carried_sound u l m s h p e (Some command.Unload) k = unload_sound u l h.ie
carried_sound u l m s h p e (Some command.Clean) k = plain_sound u l h.ie
carried_sound u l m s h p e (Some command.Initialize) k = plain_sound u l h.ie
carried_sound u l m s h p e (Some command.GetStatus) k = plain_sound u l h.ie
carried_sound u l m s h p e None k = plain_sound u l h.ie
