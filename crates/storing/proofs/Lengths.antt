-- How many blocks are laid, and that memory and reel keep their lengths.
use mathlib.Core.Path.{◌≡◌, refl, ◌∙◌}
use mathlib.Core.Bool.{Bool, true, false}
use mathlib.Core.List.{List, ◌∷◌}
use Prim.Native.Nat.{ℕ, ◌+◌, ◌*◌}
use native.Mathlib.Nat.{add-zero}
use native.Mathlib.Omega.{arith}
use lib.ListN.{length}
use lib.Seq.{length-sets}
use Rattle.lists.specs.Pick.{pick}
use Rattle.lists.proofs.Placed.{length_gathered, length_placed}
use Rattle.tape.specs.Numbers.{block_bytes}
use Rattle.tape.specs.Objects.{Object, blocks_in, blocks_of, gap, images_of}
use Rattle.tape.specs.Bytes.{read_into}
use Rattle.tape.proofs.Images.{length_images}
use Rattle.signals.proofs.Messages.{length_messaged}
use Rattle.state.proofs.Tests.{either}
use Rattle.motions.specs.Parts.{laid_blocks, object_blocks}
use Rattle.motions.specs.declared.parts.Laid.{Laid}
use Rattle.motions.specs.declared.parts.Moved.{Moved}
use Rattle.motions.specs.declared.parts.ObjectKind.{ObjectKind}
use Rattle.motions.specs.declared.parts.ObjectKind.TheVariants as kind
use Rattle.commands.specs.declared.plans.Plan.{Plan}
use Rattle.storing.specs.Stored.{laid_object, laid_objects, laid_on, memory_after, message_on, moved_on, reel_after}

blocks_object : (m : List ℕ) (l : Laid) (k : ObjectKind) → blocks_of (laid_object m l k) ≡ object_blocks k l.length
unfolding laid_object object_blocks blocks_of blocks_in
blocks_object m l kind.Nothing = refl
blocks_object m l kind.Mark = refl
blocks_object m l kind.Gap = refl
blocks_object m l kind.Record = rw (length_gathered l.swb m l.pointer l.length, add-zero)

blocks_first : (t : Bool) (os : List Object) (n : ℕ) → blocks_of os ≡ n → blocks_of (pick t (gap ∷ os) os) ≡ pick t (n + 1) n
unfolding blocks_of blocks_in
blocks_first true os n e = omega arith
blocks_first false os n e = e

pub blocks_laid : (m : List ℕ) (l : Laid) → blocks_of (laid_objects m l) ≡ laid_blocks l
unfolding laid_objects laid_blocks
blocks_laid m l = blocks_first l.gap_first (laid_object m l l.object) (object_blocks l.object l.length) (blocks_object m l l.object)

pub length_laid : (m : List ℕ) (l : Laid) → length (images_of (laid_objects m l)) ≡ block_bytes * laid_blocks l
length_laid m l = rw (length_images (laid_objects m l), blocks_laid m l)

pub length_moved : (s : List ℕ) (x : Moved) (m : List ℕ) → length (moved_on s x m) ≡ length m
unfolding moved_on read_into
length_moved s x m = length_placed _ _ _ _

pub length_reel : (p : Plan) (m s : List ℕ) → length (reel_after p m s) ≡ length s
unfolding reel_after laid_on
length_reel p m s = length-sets s (block_bytes * p.laid.at) (images_of (laid_objects m p.laid))

pub length_memory : (p : Plan) (m s : List ℕ) → length (memory_after p m s) ≡ length m
unfolding memory_after message_on
length_memory p m s =
    let moved = moved_on (reel_after p m s) p.moved m in
    let long : length moved ≡ length m = length_moved (reel_after p m s) p.moved m in
    either (λ (l : List ℕ). length l ≡ length m) p.sends _ moved (length_messaged moved p.unit.characteristics.address p.message ∙ long) long
