-- A step taken had passed the checks. So the world before it is fit, whatever block the host handed over.
use mathlib.Core.Path.{◌≡◌}
use Prim.Native.Nat.{ℕ, ◌≤◌}
use native.Mathlib.Omega.{arith}
use lib.ListN.{length}
use Rattle.std.specs.Prelude.{Ok}
use Rattle.index.specs.Table.{places_limit}
use Rattle.state.specs.Legal.{Legal}
use Rattle.entries.specs.Numbers.{Small}
use Rattle.entries.proofs.Used.{length_used}
use Rattle.worlds.specs.declared.Session.{Session}
use Rattle.worlds.specs.Worlds.{World, session_of}
use Rattle.worlds.specs.Passes.{Fit}
use Rattle.worlds.specs.Refusals.{checked, journal_limit}
use Rattle.worlds.proofs.Passing.{passed}
use Rattle.stateblock.specs.Block.{entry_with, session_in}
use Rattle.ts11.specs.Given.{Host, world_in}

-- a block's world that the checks let pass
pub fit_in : (h : Host) → checked (session_in h.block) (length h.memory) (length h.reel) (length h.journal) ≡ Ok tt → Fit (length h.journal) (world_in h)
fit_in h sound =
    let s : Session = session_in h.block in
    let p = passed s (length h.memory) (length h.reel) (length h.journal) sound in
    record {
      sound = sound;
      whole = length_used s.used h.journal (omega (arith, p.used, p.journal_is));
      named = omega arith;
    }

-- a session that the checks let pass, and whose places a table has, has numbers of four bytes
pub small_legal : (s : Session) → Legal s.unit → s.used ≤ s.journal → s.journal ≤ journal_limit → s.objects ≤ places_limit → Small (entry_with s)
unfolding entry_with
small_legal s l used limit few =
    record {
      position = omega (arith, l.place, l.capacity, l.blocks_most);
      end = omega (arith, l.capacity, l.blocks_most);
      pointer = omega (arith, l.pointer);
      class = omega (arith, l.class);
      memory = omega (arith, l.memory_most);
      blocks = omega (arith, l.blocks_most);
      data_at_fits = omega arith;
      data_length_fits = omega arith;
      message_at_fits = omega arith;
      message_length_fits = omega arith;
      reel_at_fits = omega arith;
      reel_blocks_fits = omega arith;
      objects = omega arith;
      transport = omega arith;
    }

pub small_fit : (n : ℕ) (w : World) → Fit n w → w.core.objects ≤ places_limit → Small (entry_with (session_of w))
small_fit n w fit few =
    let p = passed (session_of w) (length w.core.memory) (length w.core.reel) n fit.sound in
    small_legal (session_of w) p.legal p.used p.limit few
