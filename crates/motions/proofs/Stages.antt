-- What every Read that ended keeps, stage by stage: the record lies below the recorded end, and its buffer is the one asked for.
use mathlib.Core.Bool.{Bool, not}
use mathlib.Core.List.{List}
use mathlib.Core.Path.{◌≡◌, refl}
use Prim.Native.Nat.{ℕ, ◌+◌, ◌*◌, ◌≤◌}
use native.Mathlib.Omega.{arith}
use Rattle.tape.specs.Numbers.{block_bytes, pieces_of}
use Rattle.tape.proofs.Within.{RecordIn}
use Rattle.signals.specs.declared.message.End.{End}
use Rattle.state.proofs.Tests.{either}
use Rattle.moves.specs.declared.seeking.Sought.{Sought}
use Rattle.moves.specs.declared.seeking.Sought.TheVariants as sought-as
use Rattle.moves.proofs.Within.{SoughtIn, sought_in}
use Rattle.motions.specs.Parts.{no_lay, standing}
use Rattle.motions.specs.Reads.{first_block, mark_end, nothing_end, read_motion, read_one, read_one_under, read_then_space, read_then_space_under, reread, reread_under, space_back, space_back_under, space_then_read, space_then_read_under, stage_by, stage_of, stage_of_under, stop_motion}
use Rattle.motions.specs.declared.parts.Ending.{Ending}
use Rattle.motions.specs.declared.reads.Buffer.{Buffer}
use Rattle.motions.specs.declared.reads.Stage.{Stage}
use Rattle.motions.proofs.Onward.{StageHas, on_record_lem}
use Rattle.motions.proofs.Ends.{EndFits, Has, mark_end_fits, nothing_end_fits, read_end_fits}
use Rattle.std.specs.Prelude.{Result, Ok, Err}
use Rattle.tape.specs.declared.Damage.{Damage}

-- a Read as asked by r that ended, on a tape whose recorded end is e
pub record ReadFits (e : ℕ) (r : Buffer) (x : Ending) : Type 0 where
  pub place : x.tape.position ≤ x.tape.end
  pub kept : x.tape.end ≡ e
  pub source : block_bytes * (x.moved.first + pieces_of x.moved.length) ≤ block_bytes * e
  pub buffer : x.moved.pointer + x.moved.count ≤ r.pointer + r.count.0
  pub unlaid : x.laid ≡ no_lay
  pub told : EndFits x.end

module _ (e : ℕ) (r : Buffer) where
  stop_has : (x : End) (q : ℕ) → EndFits x → q ≤ e → Has (ReadFits e r) (stop_motion x q e)
  unfolding stop_motion
  stop_has x q f h = record { place = h; kept = refl; source = omega arith; buffer = omega arith; unlaid = refl; told = f }

  -- the record of n bytes that was passed up to q is moved, and the tape stands at b
  record_has : (reverse rev : Bool) (n q b : ℕ) → RecordIn reverse e n q → b ≤ e → Has (ReadFits e r) (read_motion r reverse n q (standing b e) rev)
  unfolding read_motion first_block
  record_has reverse rev n q b i h =
      record { place = h; kept = refl; source = omega (arith, i.inside); buffer = omega arith; unlaid = refl; told = read_end_fits n r.count rev }

  -- what is known of a stage
  abbrev StageFits : Bool → Result Stage Damage → Type 0
  StageFits reverse = StageHas (Has (ReadFits e r)) (RecordIn reverse e)

  stage_by_lem : (p : ℕ) (reverse : Bool) (f : Result Sought Damage) → SoughtIn reverse p e f → StageFits reverse (stage_by (standing p e) r.count reverse f)
  unfolding stage_by stop_motion
  stage_by_lem p reverse (Ok (sought-as.Record n q)) i = i.0
  stage_by_lem p reverse (Ok (sought-as.Mark q)) i = stop_has (mark_end r.count reverse) q (mark_end_fits r.count reverse) i.below
  stage_by_lem p reverse (Ok (sought-as.Nothing q)) i = stop_has (nothing_end r.count reverse) q (nothing_end_fits r.count reverse) i
  stage_by_lem p reverse (Err d) i = tt

  module _ (s : List ℕ) where
    stage_has : (p : ℕ) (reverse : Bool) → p ≤ e → StageFits reverse (stage_of s (standing p e) r.count reverse)
    unfolding stage_of_under
    stage_has p reverse h = stage_by_lem p reverse _ (sought_in s reverse p e h)

    pub one_has : (p : ℕ) (reverse : Bool) → p ≤ e → Has (ReadFits e r) (read_one s (standing p e) r reverse)
    unfolding read_one_under
    one_has p reverse h =
        on_record_lem (Has (ReadFits e r)) (RecordIn reverse e) _ _ (stage_has p reverse h) (λ n q i. record_has reverse reverse n q q i i.below)

    then_read_has : (p : ℕ) (reverse : Bool) → p ≤ e → Has (ReadFits e r) (space_then_read s (standing p e) r reverse)
    unfolding space_then_read_under
    then_read_has p reverse h =
        on_record_lem (Has (ReadFits e r)) (RecordIn reverse e) _ _ (stage_has p reverse h) (λ n q i. one_has q (not reverse) i.below)

    back_has : (reverse : Bool) (n q : ℕ) → RecordIn reverse e n q → Has (ReadFits e r) (space_back s e r reverse n q)
    unfolding space_back_under
    back_has reverse n q i =
        on_record_lem (Has (ReadFits e r)) (RecordIn (not reverse) e) _ _ (stage_has q (not reverse) i.below) (λ m b j. record_has reverse (not reverse) n q b i j.below)

    then_space_has : (p : ℕ) (reverse : Bool) → p ≤ e → Has (ReadFits e r) (read_then_space s (standing p e) r reverse)
    unfolding read_then_space_under
    then_space_has p reverse h =
        on_record_lem (Has (ReadFits e r)) (RecordIn reverse e) _ _ (stage_has p reverse h) (λ n q i. back_has reverse n q i)

    pub reread_has : (p : ℕ) (reverse opp : Bool) → p ≤ e → Has (ReadFits e r) (reread s (standing p e) r reverse opp)
    unfolding reread_under
    reread_has p reverse opp h = either (Has (ReadFits e r)) opp _ _ (then_space_has p reverse h) (then_read_has p reverse h)
