-- Write and Format, step 11 and the retry. (01)
use Rattle.std.specs.Prelude.{Bool, true, List, ℕ, ◌+◌, leb, ltb, Result, Ok, Err}
use Rattle.lists.specs.Pick.{pick}
use Rattle.tape.specs.Numbers.{eot_marker_under, margin, record_limit}
use Rattle.signals.specs.Bits.{NEF, REV, RIB, TMK}
use Rattle.signals.specs.Message.{flag_of}
use Rattle.signals.specs.declared.counts.Residual.TheVariants as residual
use Rattle.state.specs.declared.Tape.{Tape}
use Rattle.moves.specs.Seeking.{sought_under}
use Rattle.moves.specs.declared.seeking.Sought.{Sought}
use Rattle.moves.specs.declared.seeking.Sought.TheVariants as sought-as
use Rattle.motions.specs.Parts.{end, laid_blocks, no_move, standing, stops}
use Rattle.motions.specs.declared.parts.Laid.{Laid}
use Rattle.motions.specs.declared.parts.Ending.{Ending}
use Rattle.tape.specs.declared.Damage.{Damage}

-- "11. Object doesn't fit the reel: NEF, EOT, class 3, unmoved."
unfoldable pub no_room : Tape → Result Ending Damage
no_room t = stops (end 3 NEF 0 residual.Nothing) t

-- "then a one-block gap, then the new object"
unfoldable pub behind_gap : Laid → ℕ → Laid
behind_gap l q =
    record {
      at = q;
      gap_first = true;
      object = l.object;
      pointer = l.pointer;
      length = l.length;
      swb = l.swb;
    }

-- under any EOT margin
module _ (eotMargin : ℕ) where
  -- "A write or format carried out that ends at or past EOT: class 2. A written mark sets TMK."
  unfoldable pub written_motion_under : Laid → ℕ → Bool → Result Ending Damage
  written_motion_under l blocks mark =
      Ok
      (record {
        end = end (pick (leb (eot_marker_under eotMargin blocks) (l.at + laid_blocks l)) 2 0) (flag_of mark TMK) 0 residual.Nothing;
        tape = standing (l.at + laid_blocks l) (l.at + laid_blocks l);
        moved = no_move;
        laid = l;
      })

  unfoldable pub written_at_under : Tape → ℕ → Laid → Bool → Result Ending Damage
  written_at_under t blocks l mark = pick (ltb blocks (l.at + laid_blocks l)) (no_room t) (written_motion_under l blocks mark)

  -- "Retry: space reverse over gaps and one record or mark .. None found: RIB, class 2, nothing written."
  unfoldable pub retried_by_under : Tape → ℕ → Laid → Bool → Result Sought Damage → Result Ending Damage
  retried_by_under t blocks l mark (Ok (sought-as.Record n q)) = written_at_under t blocks (behind_gap l q) mark
  retried_by_under t blocks l mark (Ok (sought-as.Mark q)) = written_at_under t blocks (behind_gap l q) mark
  retried_by_under t blocks l mark (Ok (sought-as.Nothing q)) = stops (end 2 0 (REV + RIB) residual.Nothing) (standing q t.end)
  retried_by_under t blocks l mark (Err d) = Err d

-- under any record limit and any EOT margin
module _ (limit eotMargin : ℕ) where
  unfoldable pub retried_under : List ℕ → Tape → ℕ → Laid → Bool → Result Ending Damage
  retried_under s t blocks l mark = retried_by_under eotMargin t blocks l mark (sought_under limit s true t.position t.end)

-- and under this unit's own
abbrev pub written_motion : Laid → ℕ → Bool → Result Ending Damage
written_motion = written_motion_under margin

abbrev pub written_at : Tape → ℕ → Laid → Bool → Result Ending Damage
written_at = written_at_under margin

abbrev pub retried_by : Tape → ℕ → Laid → Bool → Result Sought Damage → Result Ending Damage
retried_by = retried_by_under margin

abbrev pub retried : List ℕ → Tape → ℕ → Laid → Bool → Result Ending Damage
retried = retried_under record_limit margin
