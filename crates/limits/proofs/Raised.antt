-- Request [7]'s laws, of any two units whose limits are no longer than a block's length word can say; and of the unit before it and this one.
use mathlib.Core.Bool.{Bool}
use mathlib.Core.List.{List}
use mathlib.Core.Path.{◌≡◌, refl, sym, ap, ◌∙◌}
use Prim.Native.Nat.{ℕ, ◌+◌, ◌-◌, ◌<◌, ◌≤◌}
use native.Mathlib.Omega.{arith}
use borrow.Author.Tests.{le-leb, lt-leb}
use Rattle.tape.specs.Numbers.{margin, record_limit}
use Rattle.tape.specs.Objects.{Holds, Object}
use Rattle.tape.proofs.Limits.{all_raised, holds_raised}
use Rattle.state.specs.declared.Unit.{Unit}
use Rattle.motions.specs.Parts.{laid_blocks}
use Rattle.motions.specs.Writes.{written_motion_under}
use Rattle.motions.specs.declared.parts.Laid.{Laid}
use Rattle.advance.specs.Steps.{advanced_under}
use Rattle.unit.specs.Mounts.{unit_left}
use Rattle.limits.specs.Alike.{ReadsAlike}
use Rattle.limits.specs.Before.{limit_before, margin_before}
use Rattle.limits.specs.Raised.{EndsWith, Raised, ReadsUnder}
use Rattle.limits.proofs.Carrying.{advanced_same}
use Rattle.limits.proofs.Mounting.{holds_or_longer, mount_refuses, mount_takes}
use Rattle.limits.proofs.Reading.{margins_alike}
use Rattle.limits.proofs.Storing.{memory_alike, reel_alike, touched_alike}

module _ (limit limit' eotMargin eotMargin' : ℕ) (longer : limit ≤ limit') (most : limit' ≤ record_limit) (more : eotMargin ≤ eotMargin') where
  -- each does what this unit's limit does there, under its own margin
  reads_alike : (u : Unit) (m s : List ℕ) {os : List Object} → ReadsUnder limit u m s os → ReadsAlike (advanced_under limit eotMargin u m s) (advanced_under limit' eotMargin' u m s)
  reads_alike u m s {os} r =
      let k : Holds s u.tape.end os × (u.tape.position ≤ u.tape.end) = (holds_raised (omega arith) r.holds, r.within) in
      let all = r.holds.allowed in
      rw (advanced_same s m limit eotMargin all u k r.unwriting, advanced_same s m limit' eotMargin' (all_raised longer all) u k r.unwriting)
      (margins_alike s m record_limit eotMargin eotMargin' more u r.unwriting)

  -- what is written is the same, but for its class
  write_differs : (l : Laid) (blocks : ℕ) (mark : Bool) → eotMargin < eotMargin' → eotMargin' ≤ blocks → l.at + laid_blocks l ≡ blocks - eotMargin'
      → EndsWith 0 (written_motion_under eotMargin l blocks mark) × EndsWith 2 (written_motion_under eotMargin' l blocks mark)
  unfolding written_motion_under
  write_differs l blocks mark wider fits there =
      (rw (lt-leb (blocks - eotMargin) (l.at + laid_blocks l) (omega arith)) refl, rw (le-leb (blocks - eotMargin') (l.at + laid_blocks l) (omega arith)) refl)

  pub raised : Raised limit limit' eotMargin eotMargin'
  raised =
      record {
        formed = λ h. holds_raised longer h;
        reads = reads_alike;
        touches = λ u m s r place. touched_alike (reads_alike u m s r) place;
        reel = λ u m s r. reel_alike (reads_alike u m s r) m s;
        memory = λ u m s r inside. memory_alike (reads_alike u m s r) m s inside;
        writes = write_differs;
        mounts = λ memory s e online locked h right.
            let k = holds_raised {limit' = record_limit} (omega arith) h in
            let one = mount_takes limit memory s e online locked right k h.allowed in
            let other = mount_takes limit' memory s e online locked right k (all_raised longer h.allowed) in
            (one ∙ sym other, one, λ old. ap (unit_left old) one);
        refuses = λ memory s e online locked k right.
            let refused = mount_refuses limit memory s e online locked right (omega arith) k in
            (refused, λ old. ap (unit_left old) refused);
        exhausts = λ h. holds_or_longer limit limit' most h;
      }

-- "Records: 1 to 16,384 bytes", "capacity minus 64", and now 65,535 and 160
pub since_before : Raised limit_before record_limit margin_before margin
since_before = raised limit_before record_limit margin_before margin (omega arith) (omega arith) (omega arith)
