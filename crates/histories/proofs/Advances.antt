-- Demand 2 over the row: a call of advance of a transport comes to what its own world's does, and leaves that in its place.
use Prim.Native.Nat.{ℕ}
use Rattle.lists.proofs.Cases.{by_test}
use Rattle.unit.specs.Asks.{advance}
use Rattle.worlds.specs.Coupled.{Coupled, is_absent, step_at, view_of}
use Rattle.sessions.proofs.Advances.{advance_comes}
use Rattle.histories.specs.History.{AdvanceComes, absent, present}
use Rattle.histories.proofs.Others.{absent_step}
use Rattle.histories.proofs.Taking.{step_present}

-- every call of advance, from every coupled world and with every lent journal
pub advance_over : (n : ℕ) (w : Coupled) (k : ℕ) → AdvanceComes n w k (step_at w n k advance)
advance_over n w k =
    by_test (is_absent w k)
    (λ t. absent t (absent_step n k advance w t))
    (λ t. present t (advance_comes n (view_of k w)) (step_present n w k advance t))
