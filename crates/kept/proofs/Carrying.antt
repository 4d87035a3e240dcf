-- Every command carried out leaves the tape standing well on the reel.
use mathlib.Core.Bool.{Bool, true, false, ◌||◌}
use mathlib.Core.List.{List, []}
use mathlib.Core.Path.{◌≡◌, refl}
use Prim.Native.Nat.{ℕ, ◌*◌, ◌≤◌}
use lib.Dec.{leb, ltb}
use lib.ListN.{length}
use Rattle.std.specs.Prelude.{Option, Some, None}
use Rattle.lists.specs.Pick.{Always}
use Rattle.tape.specs.Numbers.{block_bytes, record_limit}
use Rattle.tape.specs.Objects.{blocks_of}
use Rattle.tape.proofs.Accepted.{clash}
use Rattle.signals.specs.Numbers.{pointer_limit}
use Rattle.signals.specs.declared.codes.Command.{Command}
use Rattle.signals.specs.declared.codes.Command.TheVariants as command
use Rattle.signals.specs.declared.message.End.{End}
use Rattle.signals.specs.declared.packet.Header.{Header}
use Rattle.signals.specs.declared.packet.Packet.{Packet}
use Rattle.state.specs.Checks.{buffer_wrong}
use Rattle.state.specs.declared.Tape.{Tape}
use Rattle.state.specs.declared.Unit.{Unit}
use Rattle.state.proofs.Tests.{either}
use Rattle.moves.specs.Counting.{marks, records}
use Rattle.moves.specs.declared.spacing.Count.{Count}
use Rattle.motions.specs.Parts.{resting, standing}
use Rattle.motions.specs.declared.parts.ObjectKind.{ObjectKind}
use Rattle.motions.specs.declared.parts.ObjectKind.TheVariants as kind
use Rattle.commands.specs.Commands.{asked, carried_out, carried_out_under, characteristics_at, characterized, characterized_under, formatted, formatted_under, laid_here, laying, plain_effect, plain_effect_under, positioned_by, positioned_by_under, read_by, read_by_under, refused_characteristics_under, released, reread_by, reread_by_under, rewound, rewound_under, taken_characteristics_under, unloaded, unloaded_under, written_by, written_by_under}
use Rattle.commands.specs.Ends.{told}
use Rattle.kept.specs.Formed.{Formed}
use Rattle.kept.proofs.Standing.{KeptMotion, KeptPlan, motion_kept, told_kept, unlaid, untold_kept}
use Rattle.kept.proofs.Reading.{read_one_kept, reread_kept}
use Rattle.kept.proofs.Spacing.{positioned_kept}
use Rattle.kept.proofs.Writing.{RightLength, retried_kept, written_kept}

-- a Write asks for a record of an allowed length (step 9)
abbrev pub RightCount : Option Command → ℕ → Type 0
RightCount (Some command.ReadNext) n = Always
RightCount (Some command.ReadPrevious) n = Always
RightCount (Some command.RereadPrevious) n = Always
RightCount (Some command.RereadNext) n = Always
RightCount (Some command.WriteCharacteristics) n = Always
RightCount (Some command.Write) n = (1 ≤ n) × (n ≤ record_limit)
RightCount (Some command.WriteRetry) n = (1 ≤ n) × (n ≤ record_limit)
RightCount (Some command.RecordsForward) n = Always
RightCount (Some command.RecordsReverse) n = Always
RightCount (Some command.MarksForward) n = Always
RightCount (Some command.MarksReverse) n = Always
RightCount (Some command.Rewind) n = Always
RightCount (Some command.WriteMark) n = Always
RightCount (Some command.Erase) n = Always
RightCount (Some command.MarkRetry) n = Always
RightCount (Some command.Release) n = Always
RightCount (Some command.Unload) n = Always
RightCount (Some command.Clean) n = Always
RightCount (Some command.Initialize) n = Always
RightCount (Some command.GetStatus) n = Always
RightCount None n = Always

module _ (s m : List ℕ) where
  -- an end that lays nothing
  pub rests : (u : Unit) (ie : Bool) (x : End) (t : Tape) → Formed s t → KeptPlan s m (told u ie (resting x t))
  rests u ie x t k = told_kept s m u ie (resting x t) (rw (unlaid s m) k)

  -- block 0 is a bound
  at_start : (t : Tape) → Formed s t → Formed s (standing 0 t.end)
  unfolding blocks_of
  at_start t k = (k.0, k.1, record { before = []; after = k.0; whole = refl; place = refl })

  module _ (u : Unit) (whole : length s ≡ block_bytes * u.lengths.blocks) (k : Formed s u.tape) where
    plain_kept : (ie : Bool) → KeptPlan s m (plain_effect u ie)
    unfolding plain_effect_under
    plain_kept ie = rests u ie _ u.tape k

    released_kept : (ie : Bool) → KeptPlan s m (released u ie)
    unfolding released
    released_kept ie = untold_kept s m _ 0 false k

    rewound_kept : (ie : Bool) → KeptPlan s m (rewound u ie)
    unfolding rewound_under
    rewound_kept ie = rests u ie _ _ (at_start u.tape k)

    unloaded_kept : (ie : Bool) → KeptPlan s m (unloaded u ie)
    unfolding unloaded_under
    unloaded_kept ie = rests _ ie _ _ (at_start u.tape k)

    characterized_kept : (p : Packet) (ie : Bool) → KeptPlan s m (characterized u m p ie)
    unfolding characterized_under refused_characteristics_under taken_characteristics_under
    characterized_kept p ie =
        let c = characteristics_at m p in
        either (KeptPlan s m) (ltb p.count 6) _ _ (rests _ ie _ u.tape k)
        (either (KeptPlan s m) (leb pointer_limit c.address || buffer_wrong c (length m)) _ _ (rests _ ie _ u.tape k) (rests _ ie _ u.tape k))

    read_kept : (h : Header) (p : Packet) (reverse : Bool) → KeptPlan s m (read_by u s h p reverse)
    unfolding read_by_under
    read_kept h p reverse = motion_kept s m u h.ie _ (read_one_kept s m k.1 (asked h p) u.tape.position reverse k.2)

    reread_by_kept : (h : Header) (p : Packet) (reverse : Bool) → KeptPlan s m (reread_by u s h p reverse)
    unfolding reread_by_under
    reread_by_kept h p reverse = motion_kept s m u h.ie _ (reread_kept s m k.1 (asked h p) u.tape.position reverse h.opp k.2)

    position_kept : (h : Header) (count : Count) (reverse : Bool) → KeptPlan s m (positioned_by u s h count reverse)
    unfolding positioned_by_under
    position_kept h count reverse = motion_kept s m u h.ie _ (positioned_kept s m u.tape k.1 k.2 _ count u.characteristics.enb)

    -- an object laid where the tape stands, or behind a retry's gap
    lays : (o : ObjectKind) (pointer n : ℕ) (swb mark again : Bool) → RightLength o n → KeptMotion s m (laying s u.tape u.lengths.blocks (laid_here u.tape o pointer n swb) mark again)
    lays o pointer n swb mark again r =
        let l = laid_here u.tape o pointer n swb in
        either (KeptMotion s m) again _ _ (retried_kept s m u.tape u.lengths.blocks whole k.1 k.2 l mark r)
        (written_kept s m u.tape u.lengths.blocks whole k.1 k.2 l mark r k.2)

    write_kept : (h : Header) (p : Packet) (again : Bool) → (1 ≤ p.count) × (p.count ≤ record_limit) → KeptPlan s m (written_by u s h p again)
    unfolding written_by_under
    write_kept h p again r = motion_kept s m u h.ie _ (lays kind.Record p.pointer p.count h.swb false again (λ e. r))

    format_kept : (h : Header) (o : ObjectKind) (mark again : Bool) → (o ≡ kind.Record → ⊥) → KeptPlan s m (formatted u s h o mark again)
    unfolding formatted_under
    format_kept h o mark again f = motion_kept s m u h.ie _ (lays o 0 0 false mark again (λ e. absurd (f e)))

    pub carried_kept : (h : Header) (p : Packet) (c : Option Command) → RightCount c p.count → KeptPlan s m (carried_out u m s h p c)
    unfolding carried_out_under
    carried_kept h p (Some command.ReadNext) r = read_kept h p false
    carried_kept h p (Some command.ReadPrevious) r = read_kept h p true
    carried_kept h p (Some command.RereadPrevious) r = reread_by_kept h p true
    carried_kept h p (Some command.RereadNext) r = reread_by_kept h p false
    carried_kept h p (Some command.WriteCharacteristics) r = characterized_kept p h.ie
    carried_kept h p (Some command.Write) r = write_kept h p false r
    carried_kept h p (Some command.WriteRetry) r = write_kept h p true r
    carried_kept h p (Some command.RecordsForward) r = position_kept h (records p.count) false
    carried_kept h p (Some command.RecordsReverse) r = position_kept h (records p.count) true
    carried_kept h p (Some command.MarksForward) r = position_kept h (marks p.count) false
    carried_kept h p (Some command.MarksReverse) r = position_kept h (marks p.count) true
    carried_kept h p (Some command.Rewind) r = rewound_kept h.ie
    carried_kept h p (Some command.WriteMark) r = format_kept h kind.Mark true false (λ e. clash (cc))
    carried_kept h p (Some command.Erase) r = format_kept h kind.Gap false false (λ e. clash (cc))
    carried_kept h p (Some command.MarkRetry) r = format_kept h kind.Mark true true (λ e. clash (cc))
    carried_kept h p (Some command.Release) r = released_kept h.ie
    carried_kept h p (Some command.Unload) r = unloaded_kept h.ie
    carried_kept h p (Some command.Clean) r = plain_kept h.ie
    carried_kept h p (Some command.Initialize) r = plain_kept h.ie
    carried_kept h p (Some command.GetStatus) r = plain_kept h.ie
    carried_kept h p None r = plain_kept h.ie
