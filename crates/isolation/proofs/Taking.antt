-- What is laid takes its data from memory and nothing else: where these are the same, so are the objects.
use mathlib.Core.Bool.{Bool, true}
use mathlib.Core.List.{List}
use mathlib.Core.Path.{◌≡◌, refl, sym, ◌∙◌}
use Prim.Native.Nat.{ℕ, ◌+◌, ◌<◌}
use native.Mathlib.Omega.{arith}
use lib.Dec.{ltb}
use lib.ListN.{get_or}
use lib.Seq.{ext_get_or}
use Rattle.lists.specs.Pick.{Always}
use Rattle.lists.specs.Places.{gathered, place}
use Rattle.lists.proofs.Placed.{gathered_byte, length_gathered}
use Rattle.state.specs.declared.Tape.{Tape}
use Rattle.state.specs.declared.Unit.{Unit}
use Rattle.state.proofs.Tests.{either}
use Rattle.moves.specs.Seeking.{sought}
use Rattle.moves.specs.declared.seeking.Sought.{Sought}
use Rattle.moves.specs.declared.seeking.Sought.TheVariants as sought-as
use Rattle.motions.specs.Parts.{laid_blocks, no_lay}
use Rattle.motions.specs.Writes.{behind_gap, no_room, retried_by, retried_by_under, retried_under, written_at, written_at_under, written_motion_under}
use Rattle.motions.specs.declared.parts.Laid.{Laid}
use Rattle.motions.specs.declared.parts.Ending.{Ending}
use Rattle.motions.specs.declared.parts.ObjectKind.{ObjectKind}
use Rattle.motions.specs.declared.parts.ObjectKind.TheVariants as kind
use Rattle.commands.specs.Commands.{laying}
use Rattle.commands.specs.Ends.{motion_plan, motion_plan_under, still, told_under}
use Rattle.storing.specs.Stored.{laid_object, laid_objects}
use Rattle.std.specs.Prelude.{Result, Ok, Err}
use Rattle.tape.specs.declared.Damage.{Damage}

module _ (m m' : List ℕ) where
  pub gathered_same : (w : Bool) (a n : ℕ) → ((i : ℕ) → i < n → get_or m (place w (a + i)) 0 ≡ get_or m' (place w (a + i)) 0) → gathered w m a n ≡ gathered w m' a n
  gathered_same w a n f =
      ext_get_or 0 (gathered w m a n) (gathered w m' a n) (length_gathered w m a n ∙ sym (length_gathered w m' a n))
      (λ i h. let k : i < n = omega (arith, length_gathered w m a n) in gathered_byte w m a i n k ∙ f i k ∙ sym (gathered_byte w m' a i n k))

  -- the bytes that l takes are the same
  abbrev pub SameTaken : Laid → Type 0
  SameTaken l = gathered l.swb m l.pointer l.length ≡ gathered l.swb m' l.pointer l.length

  pub none_same : SameTaken no_lay
  unfolding gathered
  none_same = refl

  object_same : (l : Laid) → SameTaken l → (k : ObjectKind) → laid_object m l k ≡ laid_object m' l k
  unfolding laid_object
  object_same l e kind.Nothing = refl
  object_same l e kind.Mark = refl
  object_same l e kind.Gap = refl
  object_same l e kind.Record = rw e

  pub objects_same : (l : Laid) → SameTaken l → laid_objects m l ≡ laid_objects m' l
  unfolding laid_objects
  objects_same l e = rw (object_same l e l.object)

  -- and so where a motion lays l, or nothing
  abbrev Taken : Result Ending Damage → Type 0
  Taken (Ok x) = SameTaken x.laid
  Taken (Err d) = Always

  module _ (t : Tape) (blocks : ℕ) (mark : Bool) where
    written_same : (l : Laid) → SameTaken l → Taken (written_at t blocks l mark)
    unfolding written_at_under written_motion_under no_room
    written_same l e = either Taken (ltb blocks (l.at + laid_blocks l)) _ _ none_same e

    -- a retry lays the same object, behind a gap
    behind_same : (l : Laid) (q : ℕ) → SameTaken l → Taken (written_at t blocks (behind_gap l q) mark)
    unfolding behind_gap
    behind_same l q e = written_same (behind_gap l q) e

    retried_same : (l : Laid) (f : Result Sought Damage) → SameTaken l → Taken (retried_by t blocks l mark f)
    unfolding retried_by_under
    retried_same l (Ok (sought-as.Record n q)) e = behind_same l q e
    retried_same l (Ok (sought-as.Mark q)) e = behind_same l q e
    retried_same l (Ok (sought-as.Nothing q)) e = none_same
    retried_same l (Err d) e = tt

    laying_same : (s : List ℕ) (l : Laid) (again : Bool) → SameTaken l → Taken (laying s t blocks l mark again)
    unfolding retried_under
    laying_same s l again e = either Taken again _ _ (retried_same l (sought s true t.position t.end) e) (written_same l e)

  motion_same : (v : Unit) (ie : Bool) (y : Result Ending Damage) → Taken y → SameTaken (motion_plan v ie y).laid
  unfolding motion_plan_under told_under still
  motion_same v ie (Ok x) e = e
  motion_same v ie (Err d) e = none_same

  -- the plan of a Write or Format
  pub laid_same : (v : Unit) (ie : Bool) (s : List ℕ) (l : Laid) (mark again : Bool) → SameTaken l → SameTaken (motion_plan v ie (laying s v.tape v.lengths.blocks l mark again)).laid
  laid_same v ie s l mark again e = motion_same v ie _ (laying_same v.tape v.lengths.blocks mark s l again e)
