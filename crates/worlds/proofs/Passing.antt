-- The checks let pass exactly what they say: from a 0 of the checks what the call knows, and back.
use mathlib.Core.Path.{◌≡◌}
use mathlib.Core.Bool.{◌||◌, not}
use Prim.Native.Nat.{ℕ, ◌+◌, ◌-◌, ◌*◌, ◌≤◌, ◌<◌}
use native.Mathlib.Omega.{arith}
use borrow.Author.Tests.{eq-eqb, eqb-true, le-ltb, ltb-false, not-false}
use lib.Dec.{eqb, ltb}
use lib.ListN.{length}
use Rattle.lists.specs.Pick.{pick}
use Rattle.lists.proofs.Cases.{past}
use Rattle.tape.specs.Numbers.{block_bytes, capacity_limit}
use Rattle.signals.specs.Numbers.{pointer_limit}
use Rattle.state.specs.Refusals.{behind}
use Rattle.std.specs.Prelude.{Result, Ok, Err, ⊤}
use Rattle.state.specs.declared.refusal.Refusal.{Refusal}
use Rattle.state.specs.declared.refusal.Refusal.TheVariants as refusal
use Rattle.state.proofs.Behind.{both_pass, never}
use Rattle.state.specs.Checks.{refusal_of, state_wrong}
use Rattle.state.proofs.Legal.{accepted, right}
use Rattle.state.proofs.Tests.{neither}
use Rattle.touched.specs.Touches.{Sizes}
use Rattle.unit.specs.Cores.{Admitted}
use Rattle.unit.proofs.Stepping.{core_sizes}
use Rattle.entries.specs.Entries.{entry_length}
use Rattle.entries.specs.declared.Entry.{Entry}
use Rattle.worlds.specs.Worlds.{World, session_of}
use Rattle.worlds.specs.Passes.{Passed}
use Rattle.worlds.specs.Refusals.{checked, journal_limit, session_wrong}
use Rattle.worlds.specs.declared.Session.{Session}

pub passed : (s : Session) (memory reel journal : ℕ) → checked s memory reel journal ≡ Ok tt → Passed s memory reel journal
unfolding checked session_wrong
passed s memory reel journal h =
    let fourth : Result ⊤ Refusal = pick (not (eqb journal s.journal)) (Err refusal.Journal) (Ok tt) in
    let second : Result ⊤ Refusal = behind (refusal_of s.unit memory reel) (λ r. Err r) fourth in
    let numbers = ltb s.journal s.used || ltb journal_limit s.journal in
    let p = past (state_wrong s.unit || numbers) (Err refusal.State) second (Ok tt) (never _) h in
    let q = both_pass (refusal_of s.unit memory reel) fourth p.1 in
    let r = past (not (eqb journal s.journal)) (Err refusal.Journal) (Ok tt) (Ok tt) (never _) q.1 in
    let t = neither (ltb s.journal s.used) (ltb journal_limit s.journal) (neither (state_wrong s.unit) numbers p.0).1 in
    let a = accepted s.unit memory reel q.0 in
    record {
      legal = a.0;
      memory_is = a.1;
      reel_is = a.2;
      journal_is = eqb-true journal s.journal (not-false (eqb journal s.journal) r.0);
      used = ltb-false s.journal s.used t.0;
      limit = ltb-false journal_limit s.journal t.1;
    }

pub let_pass : (s : Session) (memory reel journal : ℕ) → Passed s memory reel journal → checked s memory reel journal ≡ Ok tt
unfolding checked session_wrong refusal_of
let_pass s memory reel journal p =
    rw (
      right s.unit p.legal,
      le-ltb s.journal s.used p.used,
      le-ltb journal_limit s.journal p.limit,
      eq-eqb memory s.unit.lengths.memory p.memory_is,
      eq-eqb reel (block_bytes * s.unit.lengths.blocks) p.reel_is,
      eq-eqb journal s.journal p.journal_is,
    )

module _ (w : World) (n : ℕ) (p : Passed (session_of w) (length w.core.memory) (length w.core.reel) n) where
  pub core_accepted : Admitted w.core
  core_accepted = record { legal = p.legal; memory_is = p.memory_is; reel_is = p.reel_is }

  pub sizes : Sizes (length w.core.memory) (length w.core.reel)
  sizes = core_sizes w.core core_accepted

  -- an entry that refusal 9 lets pass fits the lent journal
  pub room : (e : Entry) (k : ℕ) → k ≡ entry_length e → k ≤ w.ledger.length - w.ledger.used → w.ledger.used + entry_length e ≤ n
  room e k q h = omega (arith, p.used, p.journal_is)

  -- what an advance asks
  pub plannable : (w.core.unit.tape.end ≤ capacity_limit) × (w.core.unit.registers.pointer < pointer_limit)
  plannable = (omega (arith, p.legal.capacity, p.legal.blocks_most), p.legal.pointer)
