-- "Read 1 / 0 next, 1 previous, 2 reread previous, 3 reread next." (01, Commands)
use Rattle.std.specs.Prelude.{Bool, not, List, ℕ, ◌+◌, ◌-◌, min, eqb, ltb, Result, Ok, Err}
use Rattle.lists.specs.Pick.{pick}
use Rattle.tape.specs.Numbers.{pieces_of, record_limit}
use Rattle.signals.specs.Bits.{OPI, REV, RIB, RLL, RLS, TMK}
use Rattle.signals.specs.Message.{flag_of}
use Rattle.signals.specs.declared.message.End.{End}
use Rattle.signals.specs.declared.counts.ByteCount.{ByteCount}
use Rattle.signals.specs.declared.counts.Residual.{Residual}
use Rattle.signals.specs.declared.counts.Residual.TheVariants as residual
use Rattle.state.specs.declared.Tape.{Tape}
use Rattle.moves.specs.Seeking.{sought_under}
use Rattle.moves.specs.declared.seeking.Sought.{Sought}
use Rattle.moves.specs.declared.seeking.Sought.TheVariants as sought-as
use Rattle.motions.specs.Parts.{end, no_lay, resting, standing, stops}
use Rattle.motions.specs.declared.parts.Ending.{Ending}
use Rattle.motions.specs.declared.reads.Buffer.{Buffer}
use Rattle.motions.specs.declared.reads.Stage.{Stage}
use Rattle.motions.specs.declared.reads.Stage.TheVariants as stage
use Rattle.tape.specs.declared.Damage.{Damage}

abbrev pub bytes : ℕ → Residual
bytes n = residual.Bytes (record { 0 = n })

-- "Record longer than the count: RLL; shorter: RLS; class 2."
unfoldable pub read_end : ℕ → ByteCount → Bool → End
read_end n count rev =
    end (pick (eqb n count.0) 0 2) (flag_of (ltb n count.0) RLS + flag_of (ltb count.0 n) RLL) (flag_of rev REV) (bytes (count.0 - min n count.0))

-- "A mark: TMK, RLS, class 2, position past it, nothing moved."
unfoldable pub mark_end : ByteCount → Bool → End
mark_end count rev = end 2 (TMK + RLS) (flag_of rev REV) (residual.Bytes count)

-- "Forward at the recorded end: OPI, class 6. Reverse to block 0 with no further record or mark: RIB, class 2"
unfoldable pub nothing_end : ByteCount → Bool → End
nothing_end count reverse = pick reverse (end 2 0 (REV + RIB) (residual.Bytes count)) (end 6 0 OPI (residual.Bytes count))

-- a Read that found no record: it ends so, and moves and lays nothing
unfoldable pub stop_motion : End → ℕ → ℕ → Result Ending Damage
stop_motion x p e = stops x (standing p e)

unfoldable pub stage_by : Tape → ByteCount → Bool → Result Sought Damage → Result Stage Damage
stage_by t count reverse (Ok (sought-as.Record n q)) = Ok (stage.Record n q)
stage_by t count reverse (Ok (sought-as.Mark q)) = Ok (stage.Over (resting (mark_end count reverse) (standing q t.end)))
stage_by t count reverse (Ok (sought-as.Nothing q)) = Ok (stage.Over (resting (nothing_end count reverse) (standing q t.end)))
stage_by t count reverse (Err d) = Err d

-- the first block of a record of n bytes beyond which the position is q
unfoldable pub first_block : Bool → ℕ → ℕ → ℕ
first_block reverse n q = pick reverse q (q - pieces_of n)

-- the record is read in direction `reverse`; the last stage ran `rev` and left the tape at t
unfoldable pub read_motion : Buffer → Bool → ℕ → ℕ → Tape → Bool → Result Ending Damage
read_motion r reverse n q t rev =
    Ok
    (record {
      end = read_end n r.count rev;
      tape = t;
      moved =
          record {
            first = first_block reverse n q;
            length = n;
            reverse = reverse;
            pointer = r.pointer;
            count = r.count.0;
            swb = r.swb;
          };
      laid = no_lay;
    })

-- a stage that found a record of n bytes, with the position q beyond it, goes on as f says; any other end is the command's
unfoldable pub on_record : Result Stage Damage → (ℕ → ℕ → Result Ending Damage) → Result Ending Damage
on_record (Ok (stage.Record n q)) f = f n q
on_record (Ok (stage.Over x)) f = Ok x
on_record (Err d) f = Err d

-- under any record limit
module _ (limit : ℕ) where
  -- one stage: gaps are passed over; "A mark, BOT or end in the first stage ends it, residual as if nothing moved."
  unfoldable pub stage_of_under : List ℕ → Tape → ByteCount → Bool → Result Stage Damage
  stage_of_under s t count reverse = stage_by t count reverse (sought_under limit s reverse t.position t.end)

  -- "Read 1 / 0 next, 1 previous"
  unfoldable pub read_one_under : List ℕ → Tape → Buffer → Bool → Result Ending Damage
  read_one_under s t r reverse =
      on_record (stage_of_under s t r.count reverse) (λ n q. read_motion r reverse n q (standing q t.end) reverse)

  -- "Mode 2 reread: space reverse, read forward. Mode 3: space forward, read reverse."
  unfoldable pub space_then_read_under : List ℕ → Tape → Buffer → Bool → Result Ending Damage
  space_then_read_under s t r reverse =
      on_record (stage_of_under s t r.count reverse) (λ n q. read_one_under s (standing q t.end) r (not reverse))

  -- the space back over the record of n bytes that was read up to q
  unfoldable pub space_back_under : List ℕ → ℕ → Buffer → Bool → ℕ → ℕ → Result Ending Damage
  space_back_under s e r reverse n q =
      on_record (stage_of_under s (standing q e) r.count (not reverse)) (λ n' b. read_motion r reverse n q (standing b e) (not reverse))

  -- "OPP puts the read first, same direction as the space had, then the space back."
  unfoldable pub read_then_space_under : List ℕ → Tape → Buffer → Bool → Result Ending Damage
  read_then_space_under s t r reverse = on_record (stage_of_under s t r.count reverse) (λ n q. space_back_under s t.end r reverse n q)

  unfoldable pub reread_under : List ℕ → Tape → Buffer → Bool → Bool → Result Ending Damage
  reread_under s t r reverse opp = pick opp (read_then_space_under s t r reverse) (space_then_read_under s t r reverse)

-- and under this unit's own
abbrev pub stage_of : List ℕ → Tape → ByteCount → Bool → Result Stage Damage
stage_of = stage_of_under record_limit

abbrev pub read_one : List ℕ → Tape → Buffer → Bool → Result Ending Damage
read_one = read_one_under record_limit

abbrev pub space_then_read : List ℕ → Tape → Buffer → Bool → Result Ending Damage
space_then_read = space_then_read_under record_limit

abbrev pub space_back : List ℕ → ℕ → Buffer → Bool → ℕ → ℕ → Result Ending Damage
space_back = space_back_under record_limit

abbrev pub read_then_space : List ℕ → Tape → Buffer → Bool → Result Ending Damage
read_then_space = read_then_space_under record_limit

abbrev pub reread : List ℕ → Tape → Buffer → Bool → Bool → Result Ending Damage
reread = reread_under record_limit
