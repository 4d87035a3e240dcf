-- What storing a plan keeps of memory and reel.
use mathlib.Core.Path.{◌≡◌, ◌∙◌}
use mathlib.Core.Bool.{false}
use mathlib.Core.List.{List}
use Prim.Native.Nat.{ℕ, ◌+◌, ◌*◌, ◌≤◌, ◌<◌}
use native.Mathlib.Omega.{arith}
use lib.ListN.{length, get_or}
use Rattle.lists.proofs.Cases.{pick_told}
use Rattle.lists.proofs.Placed.{placed_other, placed_plain}
use Rattle.lists.proofs.Stores.{get_d_above, get_d_below}
use Rattle.tape.specs.Numbers.{block_bytes}
use Rattle.tape.specs.Objects.{images_of}
use Rattle.signals.specs.Message.{message_bytes, messaged, words_bytes}
use Rattle.signals.proofs.Messages.{length_words}
use Rattle.motions.specs.Parts.{laid_blocks}
use Rattle.motions.specs.declared.parts.Laid.{Laid}
use Rattle.commands.specs.declared.plans.Plan.{Plan}
use Rattle.storing.specs.Outside.{OffData, OffMessage, message_to}
use Rattle.storing.specs.Stored.{MovedFits, Storable, laid_objects, laid_on, memory_after, message_on, moved_on, reel_after}
use Rattle.storing.proofs.DataPlaces.{data_kept}
use Rattle.storing.proofs.Lengths.{length_laid, length_reel}

-- memory after the data and before the message
abbrev pub data_after : Plan → List ℕ → List ℕ → List ℕ
data_after p m s = moved_on (reel_after p m s) p.moved m

-- seven words over the list l
module _ (l : List ℕ) (a : ℕ) (words : List ℕ) (seven : length words ≡ 7) where
  length_sent : length (words_bytes words) ≡ message_bytes
  length_sent = omega (arith, length_words words)

  sent_kept : (j : ℕ) → ((i : ℕ) → i < message_bytes → j ≡ a + i → ⊥) → get_or (messaged l a words) j 0 ≡ get_or l j 0
  unfolding messaged
  sent_kept j f = rw (← placed_plain l a (words_bytes words)) (placed_other false l a j (words_bytes words) (λ i h. f i (omega (arith, length_sent))))

module _ (p : Plan) (m s : List ℕ) (fits : Storable p (length m) (length s)) (seven : length p.message ≡ 7) where
  moved_fits : MovedFits p.moved (length m) (length (reel_after p m s))
  moved_fits = rw (length_reel p m s) fits.moved

  -- "Memory outside the named bytes stays"
  pub memory_kept : (j : ℕ) → OffData p.moved j → OffMessage p j → get_or (memory_after p m s) j 0 ≡ get_or m j 0
  unfolding memory_after message_on
  memory_kept j f g =
      let kept : get_or (data_after p m s) j 0 ≡ get_or m j 0 = data_kept (reel_after p m s) p.moved m moved_fits j f in
      pick_told (λ (l : List ℕ). get_or l j 0 ≡ get_or m j 0) p.sends (messaged (data_after p m s) (message_to p) p.message) (data_after p m s)
      (λ t. sent_kept (data_after p m s) (message_to p) p.message seven j (g t) ∙ kept)
      (λ t. kept)

module _ (m s : List ℕ) (l : Laid) where
  -- "The reel below the position stays" on a write, and so does what lies after the new blocks
  pub reel_kept_below : (j : ℕ) → j < block_bytes * l.at → get_or (laid_on s m l) j 0 ≡ get_or s j 0
  unfolding laid_on
  reel_kept_below j h = get_d_below (images_of (laid_objects m l)) s (block_bytes * l.at) j h

  pub reel_kept_above : (j : ℕ) → block_bytes * (l.at + laid_blocks l) ≤ j → get_or (laid_on s m l) j 0 ≡ get_or s j 0
  unfolding laid_on
  reel_kept_above j h = get_d_above (images_of (laid_objects m l)) s (block_bytes * l.at) j (omega (arith, length_laid m l))
