-- A write that ended lays inside the reel, and the tape stands inside it: behind what was laid, or where it stood.
use mathlib.Core.Bool.{Bool, true, false}
use mathlib.Core.List.{List}
use mathlib.Core.Path.{◌≡◌, refl}
use Prim.Native.Nat.{ℕ, ◌+◌, ◌≤◌}
use native.Mathlib.Omega.{arith}
use borrow.Author.Tests.{ltb-false}
use lib.Dec.{leb, ltb}
use Rattle.lists.specs.Pick.{pick}
use Rattle.tape.specs.Numbers.{eot_marker}
use Rattle.signals.specs.Bits.{TMK}
use Rattle.signals.specs.declared.message.End.{End}
use Rattle.state.specs.declared.Tape.{Tape}
use Rattle.state.proofs.Tests.{either}
use Rattle.moves.specs.declared.seeking.Sought.{Sought}
use Rattle.moves.specs.declared.seeking.Sought.TheVariants as sought-as
use Rattle.moves.proofs.Within.{SoughtIn, sought_in}
use Rattle.motions.specs.Parts.{laid_blocks, no_move, object_blocks, stops}
use Rattle.motions.specs.Writes.{behind_gap, no_room, retried, retried_under, retried_by, retried_by_under, written_at, written_at_under, written_motion, written_motion_under}
use Rattle.motions.specs.declared.parts.Laid.{Laid}
use Rattle.motions.specs.declared.parts.Ending.{Ending}
use Rattle.motions.proofs.Ends.{EndFits, Has, flag_most}
use Rattle.std.specs.Prelude.{Result, Ok, Err}
use Rattle.tape.specs.declared.Damage.{Damage}

-- a write as asked by l that ended, on a reel of so many blocks
pub record WriteFits (blocks : ℕ) (l : Laid) (x : Ending) : Type 0 where
  pub place : x.tape.position ≤ x.tape.end
  pub inside : x.tape.end ≤ blocks
  pub unmoved : x.moved ≡ no_move
  pub room : x.laid.at + laid_blocks x.laid ≤ blocks
  pub source : x.laid.pointer + x.laid.length ≤ l.pointer + l.length
  pub told : EndFits x.end

module _ (blocks : ℕ) (l : Laid) where
  -- nothing is laid
  unlaid_has : (x : End) (t : Tape) → EndFits x → t.position ≤ t.end → t.end ≤ blocks → Has (WriteFits blocks l) (stops x t)
  unfolding laid_blocks object_blocks
  unlaid_has x t f h k = record { place = h; inside = k; unmoved = refl; room = omega arith; source = omega arith; told = f }

  module _ (n : Laid) (mark : Bool) (same : n.pointer + n.length ≤ l.pointer + l.length) where
    laid_has : n.at + laid_blocks n ≤ blocks → Has (WriteFits blocks l) (written_motion n blocks mark)
    unfolding written_motion_under
    laid_has f =
        record {
          place = omega arith;
          inside = f;
          unmoved = refl;
          room = f;
          source = same;
          told =
              record {
                class = either (λ c. c ≤ 6) (leb (eot_marker blocks) (n.at + laid_blocks n)) 2 0 (omega arith) (omega arith);
                found = omega (arith, flag_most mark TMK);
                xst3 = omega arith;
              };
        }

    module _ (t : Tape) (h : t.position ≤ t.end) (k : t.end ≤ blocks) where
      no_room_has : Has (WriteFits blocks l) (no_room t)
      unfolding no_room
      no_room_has = unlaid_has _ t (record { class = omega arith; found = omega arith; xst3 = omega arith }) h k

      by_room : (b : Bool) → ltb blocks (n.at + laid_blocks n) ≡ b → Has (WriteFits blocks l) (pick b (no_room t) (written_motion n blocks mark))
      by_room true y = no_room_has
      by_room false y = laid_has (ltb-false blocks (n.at + laid_blocks n) y)

      pub written_has : Has (WriteFits blocks l) (written_at t blocks n mark)
      unfolding written_at_under
      written_has = by_room (ltb blocks (n.at + laid_blocks n)) refl

  module _ (t : Tape) (mark : Bool) (h : t.position ≤ t.end) (k : t.end ≤ blocks) where
    behind_has : (q : ℕ) → Has (WriteFits blocks l) (written_at t blocks (behind_gap l q) mark)
    unfolding behind_gap
    behind_has q = written_has (behind_gap l q) mark (omega arith) t h k

    retried_by_lem : (f : Result Sought Damage) → SoughtIn true t.position t.end f → Has (WriteFits blocks l) (retried_by t blocks l mark f)
    unfolding retried_by_under
    retried_by_lem (Ok (sought-as.Record n q)) i = behind_has q
    retried_by_lem (Ok (sought-as.Mark q)) i = behind_has q
    retried_by_lem (Ok (sought-as.Nothing q)) i = unlaid_has _ _ (record { class = omega arith; found = omega arith; xst3 = omega arith }) i k
    retried_by_lem (Err d) i = tt

    pub retried_has : (s : List ℕ) → Has (WriteFits blocks l) (retried s t blocks l mark)
    unfolding retried_under
    retried_has s = retried_by_lem _ (sought_in s true t.position t.end h)
