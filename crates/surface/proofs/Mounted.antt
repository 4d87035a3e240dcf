-- A mount that answers 0 begins a session, with the block and the table that it wrote, the reel that it was shown, and buffers of the lengths it was told.
use mathlib.Core.Bool.{Bool, false}
use mathlib.Core.List.{List, []}
use mathlib.Core.Path.{◌≡◌, refl, sym, ap, subst, ◌∙◌}
use Prim.Native.Nat.{ℕ}
use native.Mathlib.Omega.{arith}
use lib.Dec.{ltb}
use lib.ListN.{length}
use Rattle.std.specs.Prelude.{Ok}
use Rattle.lists.specs.Words.{Bytes}
use Rattle.lists.proofs.Cases.{by_test}
use Rattle.tape.specs.Afresh.{objects_in}
use Rattle.tape.specs.Sweep.{swept_below}
use Rattle.tape.specs.Sweep.{Swept}
use Rattle.index.specs.Table.{places_in}
use Rattle.state.specs.declared.Unit.{Unit}
use Rattle.state.specs.Refusals.{refusal_number}
use Rattle.state.proofs.Behind.{by_check, refusal_some}
use Rattle.commands.specs.Answers.{number_of}
use Rattle.commands.specs.declared.plans.Done.TheVariants as answer
use Rattle.unit.specs.Mounts.{mount_call_under, mount_refusal, mount_swept}
use Rattle.entries.specs.Entries.{used_in}
use Rattle.worlds.specs.Worlds.{Outcome}
use Rattle.worlds.specs.declared.Session.{Session}
use Rattle.worlds.specs.Worlds.{session_of}
use Rattle.worlds.specs.Refusals.{journal_limit}
use Rattle.worlds.specs.Calls.{mount_on, mounted_by, session}
use Rattle.sessions.specs.Calling.{Here, journal_of, ledger_of, length_of, step_kind, world_from}
use Rattle.sessions.specs.Good.{Fresh, mount_moment}
use Rattle.sessions.proofs.Mounting.{mount_session, mounted, mounted_few, mounted_fit}
use Rattle.stateblock.specs.Block.{Block, state_block, session_in}
use Rattle.ts11.specs.Given.{Host, Mounts, holding, world_in}
use Rattle.stateblock.proofs.Blocks.{block_back, block_is}
use Rattle.surface.specs.Hosting.{Begins, first, mount_given, table_given}
use Rattle.surface.proofs.Fits.{small_fit}
use Rattle.surface.proofs.Goes.{block_stepped}
use Rattle.std.specs.Prelude.{Ok, Err}

module _ (old : Session) (memory : ℕ) (r : List ℕ) (table journal e : ℕ) (online locked : Bool) where
  -- by what the sweep found
  abbrev by : Unit → Swept → Outcome
  by new x = mounted_by old table journal (objects_in r e) (mount_swept new x)

  swept_zero : (new : Unit) (x : Swept) → number_of (by new x).answer ≡ 0 → (by new x).answer ≡ Ok (answer.Step false)
  unfolding mount_swept mounted_by number_of refusal_number
  swept_zero new (Ok u) h =
      by_test (ltb (places_in table) (length (objects_in r e)))
      (λ t. let z : ◌≡◌ {A = ℕ} 11 0 = rw t at h in absurd (omega arith))
      (λ t. rw t)
  swept_zero new (Err d) h = absurd (omega arith)

  -- of a mount's answers only "done" has the number 0
  mount_zero : number_of (mount_on old memory r table journal e online locked).answer ≡ 0 → (mount_on old memory r table journal e online locked).answer ≡ Ok (answer.Step false)
  unfolding mount_on mount_call_under number_of refusal_number
  mount_zero h =
      by_check (mount_refusal memory (length r) e)
      (λ t. by_test (ltb journal_limit journal)
      (λ v. let z : ◌≡◌ {A = ℕ} 4 0 = rw (t, v) at h in absurd (omega arith))
      (λ v. rw (t, v) (swept_zero _ (swept_below r e) (rw (t, v) at h))))
      (λ x t. let z : refusal_number x ≡ 0 = rw t at h in absurd (refusal_some x z))

module _ (h : Host) (e : ℕ) (online locked : Bool) {b' tb' : List ℕ} {k f : ℕ} (all : Bytes h.reel)
    (g : Mounts h.block (mount_given h (length h.memory) (length h.journal) e online locked) (table_given h (length h.memory) (length h.journal) e online locked) 0 b' tb' k f) where
  abbrev n : ℕ
  n = length h.journal

  abbrev old : Session
  old = session_in h.block

  abbrev o : Outcome
  o = mount_given h (length h.memory) n e online locked

  abbrev after : Host
  after = holding b' h.memory h.reel tb' h.journal

  abbrev moment : Here
  moment = mount_moment old h.memory h.reel h.table n e online locked

  done : o.answer ≡ Ok (answer.Step false)
  done = mount_zero old (length h.memory) h.reel (length h.table) n e online locked (sym g.answer)

  its_block : b' ≡ state_block o.session
  unfolding step_kind
  its_block = g.state ∙ block_stepped h.block o.answer o.session (ap step_kind done)

  -- the session of the moment that a mount leaves
  new_is : session_of (world_from n moment) ≡ o.session
  unfolding length_of
  new_is =
      let is = mount_session old h.memory h.reel h.table n e online locked done in
      ap (λ (s : Session). session s.unit s.objects 0 n) is ∙ sym is

  read_as : session_of (world_from n moment) ≡ session_in b'
  read_as =
      sym (block_back (session_of (world_from n moment)) (small_fit n (world_from n moment) (mounted_fit old h.memory h.reel h.table n e online locked done) (mounted_few old h.memory h.reel h.table n e online locked done)))
      ∙ ap session_in (ap state_block new_is ∙ sym its_block)

  its_moment : moment ≡ first after
  its_moment =
      λ i. record {
        core = record { unit = (read_as i).unit; objects = (read_as i).objects; memory = h.memory; reel = h.reel; table = sym g.table i };
        entries = [];
      }

  -- the journal is empty
  its_ledger : ledger_of n [] ≡ (world_in after).ledger
  unfolding used_in length_of journal_of
  its_ledger = λ i. record { used = (read_as i).used; length = (read_as i).journal; bytes = used_in (read_as i).used h.journal }

  pub mounted_host : Bytes b' → Begins (holding b' h.memory h.reel tb' h.journal)
  mounted_host bytes =
      record {
        fresh = subst (Fresh n) its_moment (mounted old h.memory h.reel h.table n e online locked done all);
        here =
            record {
              world = λ i. record { number = 0; core = (world_in after).core; ledger = its_ledger i };
              block = subst Block (sym its_block) (block_is o.session (subst Bytes its_block bytes));
              long = refl;
            };
      }
