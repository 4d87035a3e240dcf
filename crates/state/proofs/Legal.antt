-- A state is legal exactly if refusal 1 lets it pass, and every change keeps it legal.
use mathlib.Core.Path.{◌≡◌, refl}
use mathlib.Core.Bool.{Bool, true, false, ◌||◌, ◌&&◌, not, true≢false, and-eq-true_iff}
use Prim.Native.Nat.{ℕ, ◌+◌, ◌*◌, ◌%◌, ◌<◌, ◌≤◌}
use native.Mathlib.Omega.{arith}
use borrow.Author.Tests.{ltb-false, leb-true, leb-false, eqb-true, eqb-false, not-false, le-ltb, le-leb, lt-leb, eq-eqb, ne_eqb}
use lib.Dec.{eqb, leb, ltb}
use Rattle.lists.specs.Pick.{pick}
use Rattle.tape.specs.Numbers.{block_bytes, capacity_limit}
use Rattle.signals.specs.Message.{message_bytes}
use Rattle.signals.specs.Numbers.{pointer_limit}
use Rattle.state.specs.declared.Unit.{Unit}
use Rattle.state.specs.declared.Tape.{Tape}
use Rattle.state.specs.declared.Registers.{Registers}
use Rattle.state.specs.declared.Panel.{Panel}
use Rattle.state.specs.declared.Attention.{Attention}
use Rattle.state.specs.declared.Characteristics.{Characteristics}
use Rattle.state.specs.declared.Lengths.{Lengths}
use Rattle.state.specs.declared.act.Act.{Act}
use Rattle.state.specs.declared.act.Act.TheVariants as act
use Rattle.state.specs.Changes.{accepted_write, initialized, mounted_as, operated, rejected_write, switched_line, switched_lock, tsdb_written, with_registers}
use Rattle.state.specs.Checks.{blocks_right, buffer_wrong, last_class, lengths_wrong, memory_limit, memory_right, refusal_of, registers_wrong, state_wrong, tape_wrong}
use Rattle.state.specs.Legal.{BufferFits, Legal}
use Rattle.lists.proofs.Cases.{past}
use Rattle.std.specs.Prelude.{Result, Ok, Err, ⊤}
use Rattle.state.specs.declared.refusal.Refusal.{Refusal}
use Rattle.state.specs.declared.refusal.Refusal.TheVariants as refusal
use Rattle.state.proofs.Behind.{never}
use Rattle.state.proofs.Tests.{either, neither, none_unless, unless}

-- What each part of the check says where it finds nothing wrong.
tape_right : (t : Tape) (blocks : ℕ) → tape_wrong t blocks ≡ false → (t.position ≤ t.end) × (t.end ≤ blocks)
unfolding tape_wrong
tape_right t blocks h =
    let p = neither (ltb t.end t.position) (ltb blocks t.end) h in
    (ltb-false t.end t.position p.0, ltb-false blocks t.end p.1)

registers_right : (g : Registers) → registers_wrong g ≡ false → (g.pointer < pointer_limit) × (g.class ≤ last_class)
unfolding registers_wrong
registers_right g h =
    let p = neither (leb pointer_limit g.pointer) (ltb last_class g.class) h in
    (leb-false pointer_limit g.pointer p.0, ltb-false last_class g.class p.1)

pub buffer_right : (c : Characteristics) (memory : ℕ) → buffer_wrong c memory ≡ false → BufferFits c memory
unfolding buffer_wrong
buffer_right c memory h =
    let p = neither (eqb (c.address % 2) 1 || ltb c.length message_bytes) (ltb memory (c.address + c.length)) h in
    let q = neither (eqb (c.address % 2) 1) (ltb c.length message_bytes) p.0 in
    let odd : c.address % 2 ≡ 1 → ⊥ = eqb-false (c.address % 2) 1 q.0 in
    (omega arith, ltb-false c.length message_bytes q.1, ltb-false memory (c.address + c.length) p.1)

pub memory_fit : (n : ℕ) → memory_right n ≡ true → (n % 2 ≡ 0) × (2 ≤ n) × (n ≤ memory_limit)
memory_fit n h =
    let p = (and-eq-true_iff (eqb (n % 2) 0 && leb 2 n) (leb n memory_limit)).0 h in
    let q = (and-eq-true_iff (eqb (n % 2) 0) (leb 2 n)).0 p.0 in
    (eqb-true (n % 2) 0 q.0, leb-true 2 n q.1, leb-true n memory_limit p.1)

pub blocks_fit : (b : ℕ) → blocks_right b ≡ true → (1 ≤ b) × (b ≤ capacity_limit)
blocks_fit b h =
    let p = (and-eq-true_iff (leb 1 b) (leb b capacity_limit)).0 h in
    (leb-true 1 b p.0, leb-true b capacity_limit p.1)

lengths_right : (l : Lengths) → lengths_wrong l ≡ false → (memory_right l.memory ≡ true) × (blocks_right l.blocks ≡ true)
unfolding lengths_wrong
lengths_right l h =
    let p = neither (not (memory_right l.memory)) (not (blocks_right l.blocks)) h in
    (not-false (memory_right l.memory) p.0, not-false (blocks_right l.blocks) p.1)

-- a state that refusal 1 lets pass is legal
pub legal : (u : Unit) → state_wrong u ≡ false → Legal u
unfolding state_wrong
legal u h =
    let wrong-buffer = not u.registers.nba && buffer_wrong u.characteristics u.lengths.memory in
    let p = neither (tape_wrong u.tape u.lengths.blocks) (registers_wrong u.registers || (wrong-buffer || lengths_wrong u.lengths)) h in
    let q = neither (registers_wrong u.registers) (wrong-buffer || lengths_wrong u.lengths) p.1 in
    let r = neither wrong-buffer (lengths_wrong u.lengths) q.1 in
    let t = tape_right u.tape u.lengths.blocks p.0 in
    let g = registers_right u.registers q.0 in
    let l = lengths_right u.lengths r.1 in
    let m = memory_fit u.lengths.memory l.0 in
    let b = blocks_fit u.lengths.blocks l.1 in
    record {
      place = t.0;
      capacity = t.1;
      pointer = g.0;
      class = g.1;
      buffer = λ e. buffer_right u.characteristics u.lengths.memory (unless u.registers.nba (buffer_wrong u.characteristics u.lengths.memory) r.0 e);
      even = m.0;
      memory_least = m.1;
      memory_most = m.2;
      blocks_least = b.0;
      blocks_most = b.1;
    }

-- and a legal state passes
buffer_passes : (c : Characteristics) (memory : ℕ) → BufferFits c memory → buffer_wrong c memory ≡ false
unfolding buffer_wrong
buffer_passes c memory p = simp (ne_eqb (c.address % 2) 1 (λ e. omega arith), le-ltb c.length message_bytes p.1, le-ltb memory (c.address + c.length) p.2)

pub right : (u : Unit) → Legal u → state_wrong u ≡ false
unfolding state_wrong tape_wrong registers_wrong lengths_wrong
right u l =
    simp (
      le-ltb u.tape.end u.tape.position l.place,
      le-ltb u.lengths.blocks u.tape.end l.capacity,
      lt-leb pointer_limit u.registers.pointer l.pointer,
      le-ltb last_class u.registers.class l.class,
      none_unless u.registers.nba (buffer_wrong u.characteristics u.lengths.memory) (λ e. buffer_passes u.characteristics u.lengths.memory (l.buffer e)),
      eq-eqb (u.lengths.memory % 2) 0 l.even,
      le-leb 2 u.lengths.memory l.memory_least,
      le-leb u.lengths.memory memory_limit l.memory_most,
      le-leb 1 u.lengths.blocks l.blocks_least,
      le-leb u.lengths.blocks capacity_limit l.blocks_most,
    )

-- what a call knows that refusals 1, 2 and 3 let pass
pub accepted : (u : Unit) (memory reel : ℕ) → refusal_of u memory reel ≡ Ok tt → Legal u × (memory ≡ u.lengths.memory) × (reel ≡ block_bytes * u.lengths.blocks)
unfolding refusal_of
accepted u memory reel h =
    let third : Result ⊤ Refusal = pick (not (eqb reel (block_bytes * u.lengths.blocks))) (Err refusal.Reel) (Ok tt) in
    let second : Result ⊤ Refusal = pick (not (eqb memory u.lengths.memory)) (Err refusal.Memory) third in
    let p = past (state_wrong u) (Err refusal.State) second (Ok tt) (never _) h in
    let q = past (not (eqb memory u.lengths.memory)) (Err refusal.Memory) third (Ok tt) (never _) p.1 in
    let r = past (not (eqb reel (block_bytes * u.lengths.blocks))) (Err refusal.Reel) (Ok tt) (Ok tt) (never _) q.1 in
    (legal u p.0, eqb-true memory u.lengths.memory (not-false (eqb memory u.lengths.memory) q.0), eqb-true reel (block_bytes * u.lengths.blocks) (not-false (eqb reel (block_bytes * u.lengths.blocks)) r.0))

-- The mount's lengths never change: a state with the same ones is legal if its own numbers fit.
pub legal_with : (u v : Unit) → Legal u → v.lengths ≡ u.lengths → v.tape.position ≤ v.tape.end → v.tape.end ≤ v.lengths.blocks → v.registers.pointer < pointer_limit → v.registers.class ≤ last_class → (v.registers.nba ≡ false → BufferFits v.characteristics v.lengths.memory) → Legal v
legal_with u v l e t c p k b =
    record {
      place = t;
      capacity = c;
      pointer = p;
      class = k;
      buffer = b;
      even = rw e l.even;
      memory_least = rw e l.memory_least;
      memory_most = rw e l.memory_most;
      blocks_least = rw e l.blocks_least;
      blocks_most = rw e l.blocks_most;
    }

-- registers fresh from an initialize name no buffer
no_buffer : {A : Type 0} → true ≡ false → A
no_buffer n = absurd (true≢false n)

pub legal_tsdb : (u : Unit) (w : ℕ) → Legal u → w < 65536 → Legal (tsdb_written u w)
unfolding tsdb_written
legal_tsdb u w l h =
    let g = u.registers in
    either (λ (r : Registers). Legal (with_registers u r)) g.ssr (accepted_write g w) (rejected_write g)
    (legal_with u (with_registers u (accepted_write g w)) l refl l.place l.capacity (omega arith) (omega arith) l.buffer)
    (legal_with u (with_registers u (rejected_write g)) l refl l.place l.capacity l.pointer l.class l.buffer)

pub legal_initialized : (u : Unit) → Legal u → Legal (initialized u)
unfolding initialized
legal_initialized u l =
    let place = either (λ (p : ℕ). p ≤ u.tape.end) u.panel.online 0 u.tape.position (omega arith) l.place in
    legal_with u (initialized u) l refl place l.capacity (omega arith) (omega arith) no_buffer

-- switches and attention are no part of what is checked
pub legal_panel : (u : Unit) (p : Panel) (a : Attention) → Legal u → Legal (record { tape = u.tape; registers = u.registers; panel = p; attention = a; characteristics = u.characteristics; lengths = u.lengths })
legal_panel u p a l = legal_with u _ l refl l.place l.capacity l.pointer l.class l.buffer

pub legal_operated : (u : Unit) → Legal u → (a : Act) → Legal (operated u a)
unfolding operated switched_line switched_lock
legal_operated u l act.OnLine = either Legal u.panel.online u (switched_line u true) l (legal_panel u _ _ l)
legal_operated u l act.OffLine = either Legal u.panel.online (switched_line u false) u (legal_panel u _ _ l) l
legal_operated u l act.Lock = legal_panel u _ _ l
legal_operated u l act.Unlock = legal_panel u _ _ l

pub legal_mounted : (memory blocks e : ℕ) (online locked : Bool) → memory_right memory ≡ true → blocks_right blocks ≡ true → e ≤ blocks → Legal (mounted_as e online locked (record { memory = memory; blocks = blocks }))
unfolding mounted_as
legal_mounted memory blocks e online locked h k p =
    let m = memory_fit memory h in
    let b = blocks_fit blocks k in
    record {
      place = omega arith;
      capacity = p;
      pointer = omega arith;
      class = omega arith;
      buffer = no_buffer;
      even = m.0;
      memory_least = m.1;
      memory_most = m.2;
      blocks_least = b.0;
      blocks_most = b.1;
    }
