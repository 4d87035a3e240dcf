-- A call that takes no step has changed nothing, and so one that returns another number than 0: block, memory, reel, the whole table and the whole
-- journal are the bytes that they were.
use mathlib.Core.Bool.{false, true≢false}
use mathlib.Core.List.{List}
use mathlib.Core.Path.{◌≡◌, refl, ap, ◌∙◌}
use Prim.Native.Nat.{ℕ}
use lib.ListN.{length}
use Rattle.std.specs.Prelude.{Ok, Err}
use Rattle.tape.specs.Afresh.{objects_in}
use Rattle.tape.specs.Objects.{Object}
use Rattle.state.proofs.Tests.{either}
use Rattle.state.specs.declared.refusal.Refusal.TheVariants as refusal
use Rattle.commands.specs.Answers.{is_step, number_of}
use Rattle.commands.specs.Answers.{Answer}
use Rattle.commands.specs.declared.plans.Done.TheVariants as answer
use Rattle.worlds.specs.declared.Session.{Session}
use Rattle.worlds.specs.Worlds.{Outcome}
use Rattle.worlds.specs.Worlds.{Answered, World, session_of}
use Rattle.worlds.specs.Calls.{back_on, refused_as, table_mounted}
use Rattle.sessions.specs.Session.{stepped}
use Rattle.sessions.specs.Calling.{Call, Left, on_call, step_kind}
use Rattle.sessions.proofs.Taken.{looked_none, refused_none, stays, step_done}
use Rattle.sessions.proofs.Backs.{back_left}
use Rattle.stateblock.specs.Block.{block_after, is_block}
use Rattle.ts11.specs.Given.{Gives, Host, back_given, opened, world_in}
use Rattle.surface.specs.Hosting.{Exported, a_call, a_mount, a_step_back, given, mount_given}

opened_left : (h : Host) (x : Answered) → Left (world_in h) x → Left (world_in h) (opened h x)
unfolding opened
opened_left h x f = either (Left (world_in h)) (is_block h.block) x (refused_as refusal.State (world_in h)) f (λ g. refl)

-- "done" has the number 0
refused_step : (a : Answer) → (number_of a ≡ 0 → ⊥) → is_step a ≡ false
unfolding number_of is_step
refused_step (Ok (answer.Step i)) h = absurd (h refl)
refused_step (Ok answer.Idle) h = refl
refused_step (Err n) h = refl

not_step : (a : Answer) → is_step a ≡ false → step_kind a ≡ stepped → ⊥
unfolding is_step step_kind
not_step (Ok (answer.Step i)) h k = true≢false h
not_step (Ok answer.Idle) h k = looked_none k
not_step (Err n) h k = refused_none k

block_left : (b : List ℕ) (a : Answer) (s : Session) → is_step a ≡ false → block_after b a s ≡ b
unfolding is_step block_after
block_left b (Ok (answer.Step i)) s h = absurd (true≢false h)
block_left b (Ok answer.Idle) s h = refl
block_left b (Err n) s h = refl

-- "A refused call leaves the table alone": a mount
table_left : (tb : List ℕ) (os : List Object) (a : Answer) → is_step a ≡ false → table_mounted tb os a ≡ tb
unfolding is_step table_mounted
table_left tb os (Ok (answer.Step i)) h = absurd (true≢false h)
table_left tb os (Ok answer.Idle) h = refl
table_left tb os (Err n) h = refl

-- a host is its block and its four buffers
same_host : {h h' : Host} → h'.block ≡ h.block → h'.memory ≡ h.memory → h'.reel ≡ h.reel → h'.table ≡ h.table → h'.journal ≡ h.journal → h' ≡ h
same_host b m r t j = λ i. record { block = b i; memory = m i; reel = r i; table = t i; journal = j i }

module _ {h h' : Host} {n : ℕ} where
  left : (x : Answered) → Left (world_in h) x → Gives h x n h' → is_step x.answer ≡ false → h' ≡ h
  left x f g z =
      let same : x.world ≡ world_in h = f (not_step x.answer z) in
      same_host
      (g.state ∙ block_left h.block x.answer (session_of x.world) z)
      (g.memory ∙ ap (λ (w : World). w.core.memory) same)
      (g.reel ∙ ap (λ (w : World). w.core.reel) same)
      (g.table ∙ ap (λ (w : World). w.core.table) same)
      (g.unless_step z)

  -- a step or a reading, and a step back, that took no step: refused, or idle
  pub call_nothing : (c : Call) → Gives h (given c h) n h' → is_step (given c h).answer ≡ false → h' ≡ h
  unfolding given
  call_nothing c =
      left (given c h)
      (opened_left h (on_call (length h.journal) c (world_in h)) (λ g. stays (length h.journal) c (world_in h) (λ k. g (step_done c _ k))))

  pub back_nothing : Gives h (back_given h) n h' → is_step (back_given h).answer ≡ false → h' ≡ h
  unfolding back_given
  back_nothing = left (back_given h) (opened_left h (back_on (world_in h) (length h.journal)) (back_left (length h.journal) (world_in h)))

refused_so : {k : ℕ} (a : Answer) → k ≡ number_of a → (k ≡ 0 → ⊥) → is_step a ≡ false
refused_so a e z = refused_step a (λ f. z (e ∙ f))

-- "A refused call gives its number from document 01 and changes nothing in state, memory, reel or journal", and "leaves the table alone" (02, [8]): every
-- exported call
pub refused_nothing : {h h' : Host} {k : ℕ} → Exported h k h' → (k ≡ 0 → ⊥) → h' ≡ h
refused_nothing {h} (a_call c g) z = call_nothing c g.gives (refused_so (given c h).answer g.gives.answer z)
refused_nothing {h} (a_step_back g) z = back_nothing g.gives (refused_so (back_given h).answer g.gives.answer z)
refused_nothing {h} (a_mount memory journal e online locked g) z =
    let o : Outcome = mount_given h memory journal e online locked in
    let none : is_step o.answer ≡ false = refused_so o.answer g.answer z in
    same_host (g.state ∙ block_left h.block o.answer o.session none) refl refl (g.table ∙ table_left h.table (objects_in h.reel e) o.answer none) refl
