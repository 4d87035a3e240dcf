-- The numbers of every end fit: the class is one of the paper's, what is found leaves XST0's low byte to the unit's condition, XST3 is a word.
use mathlib.Core.Bool.{Bool, not}
use Prim.Native.Nat.{ℕ, ◌≤◌, ◌<◌}
use native.Mathlib.Omega.{arith}
use lib.Dec.{eqb, ltb}
use Rattle.lists.specs.Pick.{Always}
use Rattle.signals.specs.Bits.{REV, RLL, RLS, TMK}
use Rattle.signals.specs.Message.{flag_of}
use Rattle.signals.specs.declared.counts.ByteCount.{ByteCount}
use Rattle.signals.specs.declared.message.End.{End}
use Rattle.state.proofs.Tests.{either}
use Rattle.moves.specs.Counting.{how_many}
use Rattle.moves.specs.declared.spacing.Rule.{Rule}
use Rattle.moves.specs.declared.spacing.Span.{Span}
use Rattle.moves.specs.declared.spacing.Stop.{Stop}
use Rattle.moves.specs.declared.spacing.Stop.TheVariants as stop-as
use Rattle.motions.specs.Reads.{mark_end, nothing_end, read_end}
use Rattle.motions.specs.Spaces.{left_over, passed_mark, space_end}
use Rattle.motions.specs.declared.parts.Ending.{Ending}
use Rattle.std.specs.Prelude.{Result, Ok, Err}
use Rattle.tape.specs.declared.Damage.{Damage}

-- one thing of a motion that ended
abbrev pub Has : (Ending → Type 0) → Result Ending Damage → Type 0
Has P (Ok x) = P x
Has P (Err d) = Always

pub record EndFits (x : End) : Type 0 where
  pub class : x.class ≤ 6
  pub found : x.found ≤ 0xFF00
  pub xst3 : x.xst3 < 65536

pub flag_most : (b : Bool) (w : ℕ) → flag_of b w ≤ w
flag_most b w = either (λ n. n ≤ w) b w 0 (omega arith) (omega arith)

pub read_end_fits : (n : ℕ) (count : ByteCount) (rev : Bool) → EndFits (read_end n count rev)
unfolding read_end
read_end_fits n count rev =
    record {
      class = either (λ c. c ≤ 6) (eqb n count.0) 0 2 (omega arith) (omega arith);
      found = omega (arith, flag_most (ltb n count.0) RLS, flag_most (ltb count.0 n) RLL);
      xst3 = omega (arith, flag_most rev REV);
    }

pub mark_end_fits : (count : ByteCount) (rev : Bool) → EndFits (mark_end count rev)
unfolding mark_end
mark_end_fits count rev = record { class = omega arith; found = omega arith; xst3 = omega (arith, flag_most rev REV) }

pub nothing_end_fits : (count : ByteCount) (reverse : Bool) → EndFits (nothing_end count reverse)
unfolding nothing_end
nothing_end_fits count reverse =
    either EndFits reverse _ _
    (record { class = omega arith; found = omega arith; xst3 = omega arith })
    (record { class = omega arith; found = omega arith; xst3 = omega arith })

module _ (r : Rule) (x : Span) where
  passed_most : passed_mark x ≤ TMK
  passed_most = flag_most x.tmk TMK

  left_most : left_over x ≤ RLS
  left_most = flag_most (not (eqb (how_many x.left) 0)) RLS

  reverse_most : flag_of r.reverse REV ≤ REV
  reverse_most = flag_most r.reverse REV

  pub space_end_fits : (stop : Stop) → EndFits (space_end r x stop)
  unfolding space_end
  space_end_fits stop-as.Count = record { class = omega arith; found = omega (arith, passed_most); xst3 = omega (arith, reverse_most) }
  space_end_fits stop-as.Mark = record { class = omega arith; found = omega arith; xst3 = omega (arith, reverse_most) }
  space_end_fits stop-as.LogicalEnd = record { class = omega arith; found = omega (arith, passed_most, left_most); xst3 = omega (arith, reverse_most) }
  space_end_fits stop-as.Nothing =
      either EndFits r.reverse _ _
      (record { class = omega arith; found = omega (arith, passed_most, left_most); xst3 = omega arith })
      (record { class = omega arith; found = omega (arith, passed_most); xst3 = omega arith })
