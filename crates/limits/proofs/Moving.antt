-- So the tape's motions in Read and Position are the same.
use mathlib.Core.Bool.{Bool, not}
use mathlib.Core.List.{List}
use mathlib.Core.Path.{◌≡◌, refl}
use Prim.Native.Nat.{ℕ, ◌≤◌}
use Rattle.tape.specs.Objects.{AllAllowedUnder, Holds, Object}
use Rattle.moves.specs.Seeking.{sought}
use Rattle.moves.specs.declared.seeking.Sought.{Sought}
use Rattle.moves.specs.declared.seeking.Sought.TheVariants as sought-as
use Rattle.moves.specs.declared.spacing.Count.{Count}
use Rattle.moves.specs.declared.spacing.Rule.{Rule}
use Rattle.moves.proofs.Within.{SoughtIn, sought_in}
use Rattle.motions.specs.Parts.{standing}
use Rattle.motions.specs.Reads.{on_record, read_one, read_one_under, read_then_space, read_then_space_under, reread, reread_under, space_back, space_back_under, space_then_read, space_then_read_under, stage_by, stage_of, stage_of_under}
use Rattle.motions.specs.Spaces.{positioned, positioned_under, start_span}
use Rattle.motions.specs.declared.parts.Ending.{Ending}
use Rattle.motions.specs.declared.reads.Buffer.{Buffer}
use Rattle.limits.proofs.Finding.{sought_under_lem, spaced_under_lem}
use Rattle.std.specs.Prelude.{Result, Ok, Err}
use Rattle.tape.specs.declared.Damage.{Damage}

module _ {s : List ℕ} {e : ℕ} {os : List Object} (h : Holds s e os) (limit : ℕ) (all : AllAllowedUnder limit os) where
  module _ (r : Buffer) where
    -- what goes on from a stage, if it is the same from every position
    by_found : (reverse : Bool) (p : ℕ) (f g : ℕ → ℕ → Result Ending Damage) (x : Result Sought Damage) → SoughtIn reverse p e x → ((n q : ℕ) → q ≤ e → f n q ≡ g n q)
        → on_record (stage_by (standing p e) r.count reverse x) f ≡ on_record (stage_by (standing p e) r.count reverse x) g
    unfolding on_record stage_by
    by_found reverse p f g (Ok (sought-as.Record n q)) i on = on n q i.0.below
    by_found reverse p f g (Ok (sought-as.Mark q)) i on = refl
    by_found reverse p f g (Ok (sought-as.Nothing q)) i on = refl
    by_found reverse p f g (Err d) i on = refl

    goes_on : (reverse : Bool) (p : ℕ) (f g : ℕ → ℕ → Result Ending Damage) → p ≤ e → ((n q : ℕ) → q ≤ e → f n q ≡ g n q)
        → on_record (stage_of_under limit s (standing p e) r.count reverse) f ≡ on_record (stage_of s (standing p e) r.count reverse) g
    unfolding stage_of_under
    goes_on reverse p f g b on = rw (sought_under_lem h limit all reverse p b) (by_found reverse p f g (sought s reverse p e) (sought_in s reverse p e b) on)

    pub read_under : (p : ℕ) (reverse : Bool) → p ≤ e → read_one_under limit s (standing p e) r reverse ≡ read_one s (standing p e) r reverse
    unfolding read_one_under
    read_under p reverse b = goes_on reverse p _ _ b (λ n q c. refl)

    then_read : (p : ℕ) (reverse : Bool) → p ≤ e → space_then_read_under limit s (standing p e) r reverse ≡ space_then_read s (standing p e) r reverse
    unfolding space_then_read_under
    then_read p reverse b = goes_on reverse p _ _ b (λ n q c. read_under q (not reverse) c)

    back_under : (reverse : Bool) (n q : ℕ) → q ≤ e → space_back_under limit s e r reverse n q ≡ space_back s e r reverse n q
    unfolding space_back_under
    back_under reverse n q b = goes_on (not reverse) q _ _ b (λ n' k c. refl)

    then_space : (p : ℕ) (reverse : Bool) → p ≤ e → read_then_space_under limit s (standing p e) r reverse ≡ read_then_space s (standing p e) r reverse
    unfolding read_then_space_under
    then_space p reverse b = goes_on reverse p _ _ b (λ n q c. back_under reverse n q c)

    pub reread_under_lem : (p : ℕ) (reverse opp : Bool) → p ≤ e → reread_under limit s (standing p e) r reverse opp ≡ reread s (standing p e) r reverse opp
    unfolding reread_under
    reread_under_lem p reverse opp b = rw (then_space p reverse b, then_read p reverse b)

  pub position_under : (p : ℕ) (r : Rule) (count : Count) (enb : Bool) → p ≤ e → positioned_under limit s (standing p e) r count enb ≡ positioned s (standing p e) r count enb
  unfolding positioned_under
  position_under p r count enb b = rw (spaced_under_lem h limit all r (start_span (standing p e) count enb) b)
