-- A write on a well formed reel, at a bound or behind a retry's gap, leaves a well formed reel that ends where the tape stands.
use mathlib.Core.Bool.{Bool, true}
use mathlib.Core.List.{List, ◌++◌}
use mathlib.Core.Path.{◌≡◌, refl}
use Prim.Native.Nat.{ℕ, ◌+◌, ◌*◌, ◌≤◌}
use native.Mathlib.Omega.{arith}
use borrow.Author.Tests.{ltb-false}
use lib.Dec.{ltb}
use lib.ListN.{length}
use Rattle.lists.specs.Places.{gathered}
use Rattle.lists.proofs.Cases.{pick_told}
use Rattle.lists.proofs.Placed.{length_gathered}
use Rattle.tape.specs.Numbers.{block_bytes, record_limit}
use Rattle.tape.specs.Objects.{AllAllowed, Holds, Object, also, none, record_of}
use Rattle.state.specs.declared.Tape.{Tape}
use Rattle.state.proofs.Tests.{either}
use Rattle.moves.specs.Between.{Bound}
use Rattle.moves.specs.declared.seeking.Sought.{Sought}
use Rattle.moves.proofs.Bounds.{bound_to}
use Rattle.moves.proofs.Finds.{Finds, finds, finds_mark, finds_nothing, finds_record}
use Rattle.motions.specs.Parts.{laid_blocks}
use Rattle.motions.specs.Writes.{behind_gap, no_room, retried, retried_under, retried_by, retried_by_under, written_at, written_at_under, written_motion, written_motion_under}
use Rattle.motions.specs.declared.parts.Laid.{Laid}
use Rattle.motions.specs.declared.parts.ObjectKind.{ObjectKind}
use Rattle.motions.specs.declared.parts.ObjectKind.TheVariants as kind
use Rattle.storing.specs.Stored.{laid_object, laid_objects, laid_on}
use Rattle.storing.proofs.Lengths.{blocks_laid}
use Rattle.kept.proofs.Standing.{KeptMotion, halts}
use Rattle.kept.proofs.Overlaid.{overlaid, overlaid_end}
use Rattle.std.specs.Prelude.{Result}
use Rattle.tape.specs.declared.Damage.{Damage}

-- "Records: 1 to [65,535] bytes."
abbrev pub RightLength : ObjectKind → ℕ → Type 0
RightLength k n = k ≡ kind.Record → (1 ≤ n) × (n ≤ record_limit)

object_allowed : (m : List ℕ) (l : Laid) (k : ObjectKind) → RightLength k l.length → AllAllowed (laid_object m l k)
unfolding laid_object
object_allowed m l kind.Nothing r = none
object_allowed m l kind.Mark r = also tt none
object_allowed m l kind.Gap r = also tt none
object_allowed m l kind.Record r =
    let d : List ℕ = gathered l.swb m l.pointer l.length in
    also {o = record_of d} (rw (length_gathered l.swb m l.pointer l.length) (r refl)) none

pub laid_allowed : (m : List ℕ) (l : Laid) → RightLength l.object l.length → AllAllowed (laid_objects m l)
unfolding laid_objects
laid_allowed m l r =
    let one = object_allowed m l l.object r in
    either AllAllowed l.gap_first _ _ (also tt one) one

module _ (s m : List ℕ) (t : Tape) (blocks : ℕ) (whole : length s ≡ block_bytes * blocks) {os : List Object} (h : Holds s t.end os) (b : Bound os t.position) where
  module _ (l : Laid) (mark : Bool) (r : RightLength l.object l.length) (at : Bound os l.at) where
    laid_kept : l.at + laid_blocks l ≤ blocks → KeptMotion s m (written_motion l blocks mark)
    unfolding written_motion_under laid_on
    laid_kept fits =
        let new = laid_objects m l in
        let size = blocks_laid m l in
        (at.before ++ new, overlaid h at new (laid_blocks l) size (laid_allowed m l r) (omega arith), overlaid_end h at new (laid_blocks l) size)

    pub written_kept : KeptMotion s m (written_at t blocks l mark)
    unfolding written_at_under no_room
    written_kept =
        pick_told (KeptMotion s m) (ltb blocks (l.at + laid_blocks l)) _ _ (λ f. halts s m h b) (λ f. laid_kept (ltb-false blocks (l.at + laid_blocks l) f))

  module _ (l : Laid) (mark : Bool) (r : RightLength l.object l.length) where
    retried_by_lem : {f : Result Sought Damage} → Finds os true t.position f → KeptMotion s m (retried_by t blocks l mark f)
    unfolding retried_by_under behind_gap
    retried_by_lem (finds_record d {q = q} g c) = written_kept (behind_gap l q) mark r (bound_to true c)
    retried_by_lem (finds_mark {q = q} g c) = written_kept (behind_gap l q) mark r (bound_to true c)
    retried_by_lem (finds_nothing g c z) = halts s m h (bound_to true c)

    pub retried_kept : KeptMotion s m (retried s t blocks l mark)
    unfolding retried_under
    retried_kept = retried_by_lem (finds h true b)
