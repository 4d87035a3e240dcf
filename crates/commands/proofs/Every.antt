-- What holds of every end that is told and of every plan that stores nothing holds of every command carried out. The state of such a plan has
-- the message buffer of the state before, or one that lies inside memory.
use mathlib.Core.Bool.{Bool, false, ◌||◌}
use mathlib.Core.List.{List}
use mathlib.Core.Logic.{◌⊎◌, inl, inr}
use mathlib.Core.Path.{◌≡◌, refl}
use Prim.Native.Nat.{ℕ}
use lib.Dec.{leb, ltb}
use lib.ListN.{length}
use Rattle.std.specs.Prelude.{Option, Some, None}
use Rattle.lists.specs.Pick.{Always}
use Rattle.lists.proofs.Cases.{pick_told}
use Rattle.signals.specs.Numbers.{pointer_limit}
use Rattle.signals.specs.declared.codes.Command.{Command}
use Rattle.signals.specs.declared.codes.Command.TheVariants as command
use Rattle.signals.specs.declared.packet.Header.{Header}
use Rattle.signals.specs.declared.packet.Packet.{Packet}
use Rattle.state.specs.Checks.{buffer_wrong}
use Rattle.state.specs.Legal.{BufferFits}
use Rattle.state.specs.declared.Characteristics.{Characteristics}
use Rattle.state.specs.declared.Unit.{Unit}
use Rattle.state.proofs.Legal.{buffer_right}
use Rattle.state.proofs.Tests.{either, neither}
use Rattle.motions.specs.declared.parts.Ending.{Ending}
use Rattle.std.specs.Prelude.{Ok, Err}
use Rattle.state.proofs.Behind.{InBlock}
use Rattle.commands.specs.Answers.{bad_block}
use Rattle.commands.specs.Commands.{carried_out, carried_out_under, characteristics_at, characterized, characterized_under, formatted_under, plain_effect_under, positioned_by_under, read_by_under, refused_characteristics_under, released, reread_by_under, rewound_under, taken_characteristics_under, unloaded_under, written_by_under}
use Rattle.commands.specs.Ends.{ended, motion_plan, still, told, untold}
use Rattle.commands.specs.Answers.{Answer}
use Rattle.commands.specs.declared.plans.Done.TheVariants as answer
use Rattle.commands.specs.declared.plans.Plan.{Plan}
use Rattle.commands.proofs.Told.{motion_either}
use Rattle.std.specs.Prelude.{Result}
use Rattle.tape.specs.declared.Damage.{Damage}

-- "all old values kept", or all taken
abbrev pub Buffered : Characteristics → ℕ → Unit → Type 0
Buffered c memory v = (v.characteristics ≡ c) ⊎ BufferFits v.characteristics memory

-- every end that is told, and every plan that stores nothing
abbrev pub ToldAll : Characteristics → ℕ → (Plan → Type 0) → Type 0
ToldAll c memory P = (v : Unit) → Buffered c memory v → (ie : Bool) (x : Ending) → P (told v ie x)

-- a command that is carried out is done, or a block at fault refuses it
abbrev pub DoneOrBad : Answer → Type 0
DoneOrBad (Ok (answer.Step i)) = Always
DoneOrBad (Ok answer.Idle) = ⊥
DoneOrBad (Err r) = InBlock (λ why k. Always) ⊥ r

abbrev pub Stands : Characteristics → ℕ → (Plan → Type 0) → Type 0
Stands c memory P = (v : Unit) → Buffered c memory v → (a : Answer) → DoneOrBad a → P (still v a)

module _ (u : Unit) (m : List ℕ) (P : Plan → Type 0) (tells : ToldAll u.characteristics (length m) P) (stands : Stands u.characteristics (length m) P) where
  moves : (ie : Bool) (y : Result Ending Damage) → P (motion_plan u ie y)
  moves ie y = motion_either u ie P y (λ x e. tells u (inl refl) ie x) (λ why k e. stands u (inl refl) (bad_block why k) tt)

  characterizes : (p : Packet) (ie : Bool) → P (characterized u m p ie)
  unfolding characterized_under refused_characteristics_under taken_characteristics_under
  characterizes p ie =
      let c = characteristics_at m p in
      either P (ltb p.count 6) _ _ (tells _ (inl refl) ie _)
      (pick_told P (leb pointer_limit c.address || buffer_wrong c (length m)) _ _ (λ t. tells _ (inl refl) ie _)
      (λ t. tells _ (inr (buffer_right c (length m) (neither (leb pointer_limit c.address) (buffer_wrong c (length m)) t).1)) ie _))

  pub every_carried : (s : List ℕ) (h : Header) (p : Packet) (c : Option Command) → P (carried_out u m s h p c)
  unfolding carried_out_under read_by_under reread_by_under positioned_by_under written_by_under formatted_under rewound_under released unloaded_under plain_effect_under untold ended
  every_carried s h p (Some command.ReadNext) = moves h.ie _
  every_carried s h p (Some command.ReadPrevious) = moves h.ie _
  every_carried s h p (Some command.RereadPrevious) = moves h.ie _
  every_carried s h p (Some command.RereadNext) = moves h.ie _
  every_carried s h p (Some command.WriteCharacteristics) = characterizes p h.ie
  every_carried s h p (Some command.Write) = moves h.ie _
  every_carried s h p (Some command.WriteRetry) = moves h.ie _
  every_carried s h p (Some command.RecordsForward) = moves h.ie _
  every_carried s h p (Some command.RecordsReverse) = moves h.ie _
  every_carried s h p (Some command.MarksForward) = moves h.ie _
  every_carried s h p (Some command.MarksReverse) = moves h.ie _
  every_carried s h p (Some command.Rewind) = tells u (inl refl) h.ie _
  every_carried s h p (Some command.WriteMark) = moves h.ie _
  every_carried s h p (Some command.Erase) = moves h.ie _
  every_carried s h p (Some command.MarkRetry) = moves h.ie _
  every_carried s h p (Some command.Release) = stands _ (inl refl) (Ok (answer.Step false)) tt
  every_carried s h p (Some command.Unload) = tells _ (inl refl) h.ie _
  every_carried s h p (Some command.Clean) = tells u (inl refl) h.ie _
  every_carried s h p (Some command.Initialize) = tells u (inl refl) h.ie _
  every_carried s h p (Some command.GetStatus) = tells u (inl refl) h.ie _
  every_carried s h p None = tells u (inl refl) h.ie _
