-- One exported step back is one step back of the session, from any block and any journal.
use mathlib.Core.Path.{◌≡◌, refl, subst}
use Prim.Native.Nat.{ℕ}
use lib.ListN.{length}
use Rattle.unit.proofs.Rows.{enough_after}
use Rattle.worlds.specs.Worlds.{Answered, World, session_of}
use Rattle.worlds.specs.Calls.{back_on, undone}
use Rattle.sessions.specs.Calling.{step_kind}
use Rattle.sessions.proofs.Backs.{WentBack, back_passed, back_to, brought_back_lem, stayed_back, went_back_as}
use Rattle.stateblock.specs.Block.{Block}
use Rattle.ts11.specs.Given.{Gives, Host, back_given, world_in}
use Rattle.surface.specs.Hosting.{Returned}
use Rattle.surface.proofs.Fits.{small_legal}
use Rattle.surface.proofs.Goes.{Went, leaves, opens, stayed, went}

-- what was brought back is a state that the checks let pass
went_as : (n : ℕ) (w : World) (x : Answered) → WentBack n w x → Went w x
unfolding step_kind undone
went_as n w x (stayed_back b f) = stayed refl
went_as n w x (brought_back_lem e d p v f) =
    let q = back_passed n w e p v in
    went refl (small_legal (session_of (back_to w e)) q.legal q.used q.limit (enough_after (length w.core.table) w.core.objects e.objects f).few) refl

module _ (h : Host) (k : Block h.block) where
  abbrev does : Answered
  does = back_on (world_in h) (length h.journal)

  pub back_is : back_given h ≡ does
  unfolding back_given
  back_is = opens h does k

  pub back_as : {i : ℕ} {h' : Host} → Returned h (back_given h) i h' → Block h'.block × (world_in h' ≡ (back_on (world_in h) (length h.journal)).world)
  back_as {i} {h'} g =
      leaves k (subst (λ (x : Answered). Gives h x i h') back_is g.gives) g.bytes
      (went_as (length h.journal) (world_in h) does (went_back_as (length h.journal) (world_in h)))
