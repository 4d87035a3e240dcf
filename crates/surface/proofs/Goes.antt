-- What a call leaves with the host is the block and the buffers of the world after it.
use mathlib.Core.List.{List}
use mathlib.Core.Path.{◌≡◌, refl, sym, ap, subst, ◌∙◌}
use Prim.Native.Nat.{ℕ}
use Rattle.std.specs.Prelude.{Ok, Err}
use Rattle.lists.specs.Words.{Bytes}
use Rattle.commands.specs.Answers.{Answer}
use Rattle.commands.specs.declared.plans.Done.TheVariants as answer
use Rattle.entries.specs.Entries.{used_in}
use Rattle.entries.specs.Numbers.{Small}
use Rattle.worlds.specs.declared.Session.{Session}
use Rattle.worlds.specs.Worlds.{Answered, World, session_of}
use Rattle.sessions.specs.Session.{stepped}
use Rattle.sessions.specs.Calling.{step_kind}
use Rattle.sessions.proofs.Taken.{looked_none, refused_none}
use Rattle.stateblock.specs.Block.{Block, block_after, entry_with, session_in, state_block}
use Rattle.ts11.specs.Given.{Gives, Host, opened, world_in}
use Rattle.stateblock.proofs.Blocks.{block_back, block_is, block_own, same_block}
use Rattle.surface.specs.Hosting.{Unchanged}

-- a right block is no refusal
pub opens : (h : Host) (x : Answered) → Block h.block → opened h x ≡ x
unfolding opened
opens h x k = rw k.right

-- the block after an answer: that of the new session after a step, and the same where the session is the same
pub block_stepped : (b : List ℕ) (a : Answer) (s : Session) → step_kind a ≡ stepped → block_after b a s ≡ state_block s
unfolding block_after step_kind
block_stepped b (Ok (answer.Step i)) s k = refl
block_stepped b (Ok answer.Idle) s k = looked_none k
block_stepped b (Err n) s k = refused_none k

pub block_same : (b : List ℕ) (a : Answer) → Block b → block_after b a (session_in b) ≡ b
unfolding block_after
block_same b (Ok (answer.Step i)) k = block_own b k
block_same b (Ok answer.Idle) k = refl
block_same b (Err n) k = refl

-- a call took a step, to a session whose numbers have four bytes, or it left the world w
pub data Went (w : World) (x : Answered) : Type 0 where
  went : step_kind x.answer ≡ stepped → Small (entry_with (session_of x.world)) → x.world.number ≡ w.number → Went w x
  stayed : x.world ≡ w → Went w x

module _ {h h' : Host} {x : Answered} {n : ℕ} (k : Block h.block) (g : Gives h x n h') (bytes : Bytes h'.block) where
  -- the buffers of the world after it, with the session that the block is read as
  buffers : 0 ≡ x.world.number → session_in h'.block ≡ session_of x.world → world_in h' ≡ x.world
  buffers z e =
      let journal : used_in (session_in h'.block).used h'.journal ≡ x.world.ledger.bytes = ap (λ (s : Session). used_in s.used h'.journal) e ∙ g.journal in
      λ i. record {
        number = z i;
        core = record { unit = (e i).unit; objects = (e i).objects; memory = g.memory i; reel = g.reel i; table = g.table i };
        ledger = record { used = (e i).used; length = (e i).journal; bytes = journal i };
      }

  pub leaves : Went (world_in h) x → Block h'.block × (world_in h' ≡ x.world)
  leaves (went step small number) =
      let s : Session = session_of x.world in
      let is : h'.block ≡ state_block s = g.state ∙ block_stepped h.block x.answer s step in
      (subst Block (sym is) (block_is s (subst Bytes is bytes)), buffers (sym number) (ap session_in is ∙ block_back s small))
  leaves (stayed e) =
      let old : session_of x.world ≡ session_in h.block = ap session_of e in
      let is : h'.block ≡ h.block = g.state ∙ ap (block_after h.block x.answer) old ∙ block_same h.block x.answer k in
      (subst Block (sym is) k, buffers (sym (ap (λ (w : World). w.number) e)) (ap session_in is ∙ sym old))

-- two blocks of one world are one: a host that holds the world of another holds its bytes
pub world_bytes : {h h' : Host} → Block h.block → Block h'.block → world_in h' ≡ world_in h → Unchanged h h'
world_bytes {h} {h'} b c e =
    let same : h'.block ≡ h.block = same_block h'.block h.block c b (ap session_of e) in
    record {
      block = same;
      memory = ap (λ (w : World). w.core.memory) e;
      reel = ap (λ (w : World). w.core.reel) e;
      table = ap (λ (w : World). w.core.table) e;
      journal = ap (λ (y : List ℕ). used_in (session_in y).used h'.journal) (sym same) ∙ ap (λ (w : World). w.ledger.bytes) e;
    }
