-- Case laws of what is stored, one for each way that the code returns.
use mathlib.Core.Path.{◌≡◌}
use mathlib.Core.Bool.{true, false}
use mathlib.Core.List.{List, [], ◌∷◌, append-nil}
use Prim.Native.Nat.{ℕ, ◌+◌, ◌*◌}
use native.Mathlib.Omega.{arith}
use lib.ListN.{length}
use lib.Seq.{sets}
use Rattle.lists.proofs.Stores.{sets_at}
use Rattle.tape.specs.Numbers.{block_bytes}
use Rattle.tape.specs.Objects.{Object, blocks_in, gap, image_of, images_of}
use Rattle.tape.proofs.Images.{length_image}
use Rattle.signals.specs.Message.{messaged}
use Rattle.motions.specs.Parts.{laid_blocks, object_blocks}
use Rattle.motions.specs.declared.parts.Laid.{Laid}
use Rattle.commands.specs.declared.plans.Plan.{Plan}
use Rattle.storing.specs.Stored.{StoredPlan, laid_object, laid_objects, laid_on, memory_after, message_on, moved_on, reel_after}

-- one object is laid
pub one_laid : (s s' : List ℕ) (at : ℕ) (o : Object) → s' ≡ sets s at (image_of o) → s' ≡ sets s at (images_of (o ∷ []))
unfolding images_of
one_laid s s' at o e = rw (append-nil (image_of o)) e

-- a gap first, or the object alone: how many blocks, and the reel s'' after it
module _ (l : Laid) where
  pub blocks_after_gap : l.gap_first ≡ true → laid_blocks l ≡ object_blocks l.object l.length + 1
  unfolding laid_blocks
  blocks_after_gap t = rw t

  pub blocks_alone : l.gap_first ≡ false → laid_blocks l ≡ object_blocks l.object l.length
  unfolding laid_blocks
  blocks_alone t = rw t

  objects_after_gap : (m : List ℕ) → l.gap_first ≡ true → laid_objects m l ≡ gap ∷ laid_object m l l.object
  unfolding laid_objects
  objects_after_gap m t = rw t

  objects_alone : (m : List ℕ) → l.gap_first ≡ false → laid_objects m l ≡ laid_object m l l.object
  unfolding laid_objects
  objects_alone m t = rw t

  pub laid_after_gap : (s s' s'' m : List ℕ) → l.gap_first ≡ true → s' ≡ sets s (block_bytes * l.at) (image_of gap) → s'' ≡ sets s' (block_bytes * (l.at + 1)) (images_of (laid_object m l l.object)) → s'' ≡ laid_on s m l
  unfolding laid_on images_of blocks_in
  laid_after_gap s s' s'' m t e f =
      let next : block_bytes * (l.at + 1) ≡ block_bytes * l.at + length (image_of gap) = omega (arith, length_image gap) in
      rw (f, e, objects_after_gap m t) (sets_at (image_of gap) (images_of (laid_object m l l.object)) s (block_bytes * l.at) (block_bytes * (l.at + 1)) next)

  pub laid_alone : (s s' m : List ℕ) → l.gap_first ≡ false → s' ≡ sets s (block_bytes * l.at) (images_of (laid_object m l l.object)) → s' ≡ laid_on s m l
  unfolding laid_on
  laid_alone s s' m t e = rw (objects_alone m t) e

-- the message goes out over l, or does not
module _ (p : Plan) (l : List ℕ) where
  pub message_sent : p.sends ≡ true → messaged l p.unit.characteristics.address p.message ≡ message_on p l
  unfolding message_on
  message_sent t = rw t

  pub none_sent : p.sends ≡ false → l ≡ message_on p l
  unfolding message_on
  none_sent t = rw t

-- the reel s' after laying, memory m' after the data, and m'' after the message
module _ (p : Plan) (m m' s s' : List ℕ) (laid : s' ≡ laid_on s m p.laid) (moved : m' ≡ moved_on s' p.moved m) where
  pub stored_sent : (m'' : List ℕ) → p.sends ≡ true → m'' ≡ messaged m' p.unit.characteristics.address p.message → StoredPlan p m s m'' s'
  unfolding memory_after reel_after
  stored_sent m'' t e = record { memory = rw (e, moved, laid) (message_sent p (moved_on (laid_on s m p.laid) p.moved m) t); reel = laid }

  pub stored_quiet : p.sends ≡ false → StoredPlan p m s m' s'
  unfolding memory_after reel_after
  stored_quiet t = record { memory = rw (moved, laid) (none_sent p (moved_on (laid_on s m p.laid) p.moved m) t); reel = laid }
