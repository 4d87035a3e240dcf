-- Any number of steps, all undone, gives back the bytes, from any block: going back k gives what was before the earliest of the k.
use mathlib.Core.Path.{◌≡◌, refl, ap, ◌∙◌}
use Prim.Native.Nat.{ℕ}
use lib.ListN.{length}
use Rattle.worlds.specs.Worlds.{Answered}
use Rattle.sessions.specs.Session.{stepped}
use Rattle.sessions.specs.Calling.{Call, call_kind}
use Rattle.sessions.proofs.Taken.{stays}
use Rattle.stateblock.specs.Block.{Block}
use Rattle.ts11.specs.Given.{Host, back_given, world_in}
use Rattle.surface.specs.Hosting.{Returned, Round, Unchanged, and_none, and_undone, given, still}
use Rattle.surface.proofs.Goes.{world_bytes}
use Rattle.surface.proofs.Runs.{given_is, runs_as}
use Rattle.surface.proofs.Undone.{world_undone}

-- h' holds the world of h
record Same (h h' : Host) : Type 0 where
  block : Block h'.block
  world : world_in h' ≡ world_in h
  long : length h'.journal ≡ length h.journal

joined : {h h₁ h₂ : Host} → Same h h₁ → Same h₁ h₂ → Same h h₂
joined x y = record { block = y.block; world = y.world ∙ x.world; long = y.long ∙ x.long }

module _ (c : Call) (h : Host) (b : Block h.block) {h₁ : Host} {k : ℕ} (g : Returned h (given c h) k h₁) where
  none_same : (call_kind c (given c h).answer ≡ stepped → ⊥) → Same h h₁
  none_same t =
      let z = runs_as c h b g in
      let kind = ap (λ (x : Answered). call_kind c x.answer) (given_is c h b) in
      record {
        block = z.0;
        world = z.1 ∙ stays (length h.journal) c (world_in h) (λ s. t (kind ∙ s));
        long = g.long;
      }

  undone_same : {h₂ h₃ : Host} {l : ℕ} → call_kind c (given c h).answer ≡ stepped → Same h₁ h₂ → Returned h₂ (back_given h₂) l h₃ → Same h h₃
  undone_same t s u =
      let z = runs_as c h b g in
      let x = world_undone c h b t s.block (s.long ∙ g.long) (s.world ∙ z.1) u in
      record { block = x.1; world = x.2; long = u.long ∙ s.long ∙ g.long }

round_same : {h h' : Host} → Block h.block → Round h h' → Same h h'
round_same b still = record { block = b; world = refl; long = refl }
round_same b (and_none {h₁ = h₁} c r g t) =
    let x = round_same b r in
    joined x (none_same c h₁ x.block g t)
round_same b (and_undone {h₁ = h₁} c r g t q u) =
    let x = round_same b r in
    let z = runs_as c h₁ x.block g in
    joined x (undone_same c h₁ x.block g t (round_same z.0 q) u)

pub round_bytes : {h h' : Host} → Block h.block → Round h h' → Unchanged h h'
round_bytes b r =
    let x = round_same b r in
    world_bytes b x.block x.world
