-- Whatever the reel holds, a motion that ended leaves the tape inside its recorded end and the reel, and moves and lays inside both.
use mathlib.Core.Bool.{Bool}
use mathlib.Core.List.{List}
use mathlib.Core.Logic.{◌⊎◌, ⊎_elim}
use mathlib.Core.Path.{◌≡◌}
use Prim.Native.Nat.{ℕ, ◌≤◌}
use native.Mathlib.Omega.{arith}
use Rattle.state.specs.declared.Tape.{Tape}
use Rattle.moves.specs.declared.spacing.Count.{Count}
use Rattle.moves.specs.declared.spacing.Rule.{Rule}
use Rattle.motions.specs.Reads.{read_one, reread}
use Rattle.motions.specs.Spaces.{positioned}
use Rattle.motions.specs.Writes.{retried, written_at}
use Rattle.motions.specs.declared.parts.Laid.{Laid}
use Rattle.motions.specs.declared.parts.Ending.{Ending}
use Rattle.motions.specs.declared.reads.Buffer.{Buffer}
use Rattle.motions.proofs.Stages.{one_has, reread_has}
use Rattle.motions.proofs.Halts.{space_has}
use Rattle.motions.proofs.Rooms.{retried_has, written_has}
pub use Rattle.motions.proofs.Ends.{EndFits}
pub use Rattle.motions.proofs.Stages.{ReadFits}
pub use Rattle.motions.proofs.Halts.{SpaceFits}
pub use Rattle.motions.proofs.Rooms.{WriteFits}
use Rattle.std.specs.Prelude.{Ok}

module _ (s : List ℕ) (t : Tape) (h : t.position ≤ t.end) {x : Ending} where
  module _ (r : Buffer) (reverse : Bool) where
    pub read_one_fits : read_one s t r reverse ≡ Ok x → ReadFits t.end r x
    read_one_fits y = rw y at (one_has t.end r s t.position reverse h)

    pub reread_fits : (opp : Bool) → reread s t r reverse opp ≡ Ok x → ReadFits t.end r x
    reread_fits opp y = rw y at (reread_has t.end r s t.position reverse opp h)

    pub read_fits : (opp : Bool) → (read_one s t r reverse ≡ Ok x) ⊎ (reread s t r reverse opp ≡ Ok x) → ReadFits t.end r x
    read_fits opp y = ⊎_elim (λ a. read_one_fits a) (λ b. reread_fits opp b) y

  pub space_fits : (r : Rule) (count : Count) (enb : Bool) → positioned s t r count enb ≡ Ok x → SpaceFits t.end x
  space_fits r count enb y = rw y at (space_has s t r count enb h)

module _ (t : Tape) (blocks : ℕ) (h : t.position ≤ t.end) (k : t.end ≤ blocks) (l : Laid) (mark : Bool) {x : Ending} where
  pub write_fits : written_at t blocks l mark ≡ Ok x → WriteFits blocks l x
  write_fits y = rw y at (written_has blocks l l mark (omega arith) t h k)

  pub retry_fits : (s : List ℕ) → retried s t blocks l mark ≡ Ok x → WriteFits blocks l x
  retry_fits s y = rw y at (retried_has blocks l t mark h k s)
