-- An advance from a legal state leaves one, and moves, lays and sends inside memory and reel.
use mathlib.Core.List.{List}
use mathlib.Core.Logic.{inl}
use mathlib.Core.Path.{◌≡◌, refl}
use Prim.Native.Nat.{ℕ}
use lib.ListN.{length}
use Rattle.signals.specs.Codes.{command_of}
use Rattle.signals.specs.Message.{message_of}
use Rattle.state.specs.Legal.{Legal}
use Rattle.state.specs.declared.Unit.{Unit}
use Rattle.std.specs.Prelude.{Ok}
use Rattle.commands.specs.Ends.{ended, still, told_under, untold}
use Rattle.commands.specs.declared.plans.Plan.{Plan}
use Rattle.commands.specs.declared.plans.Done.TheVariants as answer
use Rattle.commands.proofs.Every.{Stands, ToldAll, every_carried}
use Rattle.advance.specs.Steps.{advanced}
use Rattle.advance.proofs.Carrying.{carried_sound}
use Rattle.advance.proofs.Sound.{resting_fits, same_lengths_lem, still_sound, told_sound, untold_sound}
use Rattle.advance.proofs.Walk.{Carries, Rejects, Untold, advanced_all, alike_legal}
pub use Rattle.advance.proofs.Sound.{SoundPlan}

module _ (u : Unit) (m s : List ℕ) where
  -- what holds of every end that is told, of every other plan that stores nothing, and of an idle advance, holds of an advance
  pub every_advanced : (P : Plan → Type 0) → ToldAll u.characteristics (length m) P → Stands u.characteristics (length m) P → P (still u (Ok answer.Idle)) → P (advanced u m s)
  unfolding untold ended
  every_advanced P tells stands idle =
      advanced_all u m s P (λ v a ie x h. tells v (inl a.characteristics) ie _) (λ v a class i h. stands _ (inl a.characteristics) (Ok (answer.Step i)) tt)
      (λ v a h p f d. every_carried v m P (λ w b ie x. tells w (rw a.characteristics at b) ie x) (λ w b x n. stands w (rw a.characteristics at b) x n) s h p (command_of h.code h.mode))
      idle

  -- a message has seven words, whether it goes out or not
  pub advanced_seven : length (advanced u m s).message ≡ 7
  unfolding told_under still message_of
  advanced_seven = every_advanced (λ p. length p.message ≡ 7) (λ v b ie x. refl) (λ v b a n. refl) refl

  module _ (l : Legal u) (e : length m ≡ u.lengths.memory) where
    sound_rejects : Rejects u (SoundPlan u)
    sound_rejects v a ie x h =
        let k = alike_legal u v a l in
        same_lengths_lem a.lengths (told_sound v k ie _ (resting_fits v.lengths x v.tape k.place k.capacity h))

    sound_untold : Untold u (SoundPlan u)
    sound_untold v a class interrupts h = same_lengths_lem a.lengths (untold_sound v (alike_legal u v a l) class interrupts h)

    sound_carries : Carries u m s (SoundPlan u)
    sound_carries v a h p f d =
        same_lengths_lem a.lengths (carried_sound v (alike_legal u v a l) m s h p (rw a.lengths e) (command_of h.code h.mode) (λ t. rw (a.lengths, ← e) (d t)))

pub advanced_sound : (u : Unit) (m s : List ℕ) → Legal u → length m ≡ u.lengths.memory → SoundPlan u (advanced u m s)
advanced_sound u m s l e =
    advanced_all u m s (SoundPlan u) (sound_rejects u m s l e) (sound_untold u m s l e) (sound_carries u m s l e) (still_sound u l _)
