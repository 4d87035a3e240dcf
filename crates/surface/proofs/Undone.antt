-- The step back after a step gives back the bytes of state, memory, reel and table, from any block, be it of a state that no session ever had.
use mathlib.Core.Bool.{false}
use mathlib.Core.Path.{◌≡◌, refl, sym, ap, subst, ◌∙◌}
use Prim.Native.Nat.{ℕ}
use lib.ListN.{length}
use Rattle.std.specs.Prelude.{Ok}
use Rattle.commands.specs.Answers.{number_of}
use Rattle.commands.specs.declared.plans.Done.TheVariants as answer
use Rattle.worlds.specs.Worlds.{Answered, World, answered}
use Rattle.worlds.specs.Calls.{back_on}
use Rattle.sessions.specs.Session.{stepped}
use Rattle.sessions.specs.Calling.{Call, call_kind, on_call, step_kind}
use Rattle.sessions.proofs.Taken.{step_undone}
use Rattle.stateblock.specs.Block.{Block}
use Rattle.ts11.specs.Given.{Gives, Host, back_given, world_in}
use Rattle.stateblock.proofs.Blocks.{small_in}
use Rattle.surface.specs.Hosting.{Returned, Unchanged, given}
use Rattle.surface.proofs.Goes.{leaves, went, world_bytes}
use Rattle.surface.proofs.Backs.{back_is}
use Rattle.surface.proofs.Runs.{fit_before, given_is, runs_as}

module _ (c : Call) (h : Host) (k : Block h.block) (t : call_kind c (given c h).answer ≡ stepped) where
  abbrev n : ℕ
  n = length h.journal

  its_kind : call_kind c (on_call n c (world_in h)).answer ≡ stepped
  its_kind = ap (λ (x : Answered). call_kind c x.answer) (sym (given_is c h k)) ∙ t

  -- a step back from the world that the step left
  module _ {h' h'' : Host} {i : ℕ} (b : Block h'.block) (long : length h'.journal ≡ n) (there : world_in h' ≡ (on_call n c (world_in h)).world) (g : Returned h' (back_given h') i h'') where
    back_gives : back_given h' ≡ answered (Ok (answer.Step false)) (world_in h)
    back_gives =
        back_is h' b
        ∙ ap (back_on (world_in h')) long
        ∙ ap (λ (w : World). back_on w n) there
        ∙ step_undone n (world_in h) (fit_before c h k its_kind) c its_kind

    pub world_undone : (i ≡ 0) × Block h''.block × (world_in h'' ≡ world_in h)
    unfolding number_of step_kind
    world_undone =
        let brought : Gives h' (answered (Ok (answer.Step false)) (world_in h)) i h'' = subst (λ (x : Answered). Gives h' x i h'') back_gives g.gives in
        let z = leaves b brought g.bytes (went refl (small_in h.block k.bytes) refl) in
        (brought.answer, z.0, z.1)

  pub undone_bytes : {h' h'' : Host} {i j : ℕ} → Returned h (given c h) i h' → Returned h' (back_given h') j h'' → (j ≡ 0) × Unchanged h h''
  undone_bytes g u =
      let there = runs_as c h k g in
      let z = world_undone there.0 g.long there.1 u in
      (z.0, world_bytes k z.1 z.2)
