-- An exported call's contract permits one outcome: number, block, memory, reel, table and used journal.
use mathlib.Core.Bool.{Bool}
use mathlib.Core.List.{List}
use mathlib.Core.Path.{◌≡◌, sym, ◌∙◌}
use Prim.Native.Nat.{ℕ}
use Rattle.worlds.specs.Worlds.{Answered}
use Rattle.worlds.specs.Worlds.{Outcome}
use Rattle.worlds.specs.Calls.{RegisterRead}
use Rattle.ts11.specs.Given.{Gives, Host, Mounts, Reads, Tells}
use Rattle.surface.specs.Hosting.{Alike}

pub gives_unique : {h h₁ h₂ : Host} {x : Answered} {n₁ n₂ : ℕ} → Gives h x n₁ h₁ → Gives h x n₂ h₂ → (n₁ ≡ n₂) × Alike x.world.ledger.used h₂ h₁
gives_unique p q = (
  p.answer ∙ sym q.answer,
  record {
    block = p.state ∙ sym q.state;
    memory = p.memory ∙ sym q.memory;
    reel = p.reel ∙ sym q.reel;
    table = p.table ∙ sym q.table;
    journal = p.journal ∙ sym q.journal;
  },
)

-- what an advance tells beside its number, a register that is read, and a mount
pub tells_unique : {x : Answered} {s₁ s₂ i₁ i₂ : Bool} {k₁ k₂ f₁ f₂ : ℕ} → Tells x s₁ i₁ k₁ f₁ → Tells x s₂ i₂ k₂ f₂ → (s₁ ≡ s₂) × (i₁ ≡ i₂) × (k₁ ≡ k₂) × (f₁ ≡ f₂)
tells_unique p q = (p.stepped ∙ sym q.stepped, p.interrupt ∙ sym q.interrupt, p.block ∙ sym q.block, p.fault ∙ sym q.fault)

pub reads_unique : {x : RegisterRead} {n₁ n₂ w₁ w₂ : ℕ} → Reads x n₁ w₁ → Reads x n₂ w₂ → (n₁ ≡ n₂) × (w₁ ≡ w₂)
reads_unique p q = (p.answer ∙ sym q.answer, p.word ∙ sym q.word)

pub mounts_unique : {b b₁ b₂ tb t₁ t₂ : List ℕ} {o : Outcome} {n₁ n₂ k₁ k₂ f₁ f₂ : ℕ} → Mounts b o tb n₁ b₁ t₁ k₁ f₁ → Mounts b o tb n₂ b₂ t₂ k₂ f₂ → (n₁ ≡ n₂) × (b₁ ≡ b₂) × (t₁ ≡ t₂) × (k₁ ≡ k₂) × (f₁ ≡ f₂)
mounts_unique p q = (p.answer ∙ sym q.answer, p.state ∙ sym q.state, p.table ∙ sym q.table, p.block ∙ sym q.block, p.fault ∙ sym q.fault)
