-- One exported call is one call of the session, from any block.
use mathlib.Core.Path.{◌≡◌, refl, sym, ap, subst, ◌∙◌}
use Prim.Native.Nat.{ℕ}
use lib.ListN.{length}
use Rattle.worlds.specs.Worlds.{Answered, World}
use Rattle.worlds.specs.Passes.{Fit}
use Rattle.sessions.specs.Session.{Kind, looked, refused, stepped}
use Rattle.sessions.specs.Calling.{Call, call_kind, on_call}
use Rattle.sessions.proofs.Taken.{looked_none, refused_none, sound_step, stays, step_done, step_few, step_fit, took}
use Rattle.stateblock.specs.Block.{Block}
use Rattle.ts11.specs.Given.{Gives, Host, world_in}
use Rattle.surface.specs.Hosting.{Returned, given}
use Rattle.surface.proofs.Fits.{fit_in, small_fit}
use Rattle.surface.proofs.Goes.{Went, leaves, opens, stayed, went}

module _ (c : Call) (h : Host) (k : Block h.block) where
  abbrev n : ℕ
  n = length h.journal

  abbrev does : Answered
  does = on_call n c (world_in h)

  -- what the exported call gives is what the session's call does
  pub given_is : given c h ≡ does
  unfolding given
  given_is = opens h does k

  -- a step is taken from a fit world only
  pub fit_before : call_kind c does.answer ≡ stepped → Fit n (world_in h)
  fit_before t = fit_in h (sound_step n (world_in h) c t)

  call_went_by : (z : Kind) → call_kind c does.answer ≡ z → Went (world_in h) does
  call_went_by stepped t = went (step_done c does.answer t) (small_fit n does.world (step_fit n (world_in h) (fit_before t) c t) (step_few n (world_in h) (fit_before t) c t)) (ap (λ (w : World). w.number) (took n c (world_in h) t).is)
  call_went_by refused t = stayed (stays n c (world_in h) (λ s. refused_none (sym t ∙ s)))
  call_went_by looked t = stayed (stays n c (world_in h) (λ s. looked_none (sym t ∙ s)))

  pub runs_as : {i : ℕ} {h' : Host} → Returned h (given c h) i h' → Block h'.block × (world_in h' ≡ (on_call (length h.journal) c (world_in h)).world)
  runs_as {i} {h'} g = leaves k (subst (λ (x : Answered). Gives h x i h') given_is g.gives) g.bytes (call_went_by (call_kind c does.answer) refl)
