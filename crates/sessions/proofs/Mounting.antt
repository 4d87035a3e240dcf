-- A mount begins a session: its world is fit, its reel well formed, its table worked out, and its journal empty.
use mathlib.Core.Path.{◌≡◌, refl, ap}
use mathlib.Core.Bool.{Bool, false}
use mathlib.Core.List.{List}
use Prim.Native.Nat.{ℕ, ◌/◌, ◌≤◌}
use native.Mathlib.Nat.{min-le_right}
use native.Mathlib.Omega.{arith}
use borrow.Author.Tests.{ltb-false}
use lib.Dec.{ltb}
use lib.ListN.{length}
use Rattle.std.specs.Prelude.{Ok, Err}
use Rattle.lists.specs.Words.{Bytes}
use Rattle.lists.proofs.Cases.{by_test}
use Rattle.tape.specs.Afresh.{objects_in}
use Rattle.tape.specs.Numbers.{block_bytes}
use Rattle.tape.specs.Objects.{Holds}
use Rattle.tape.specs.Sweep.{swept_below}
use Rattle.tape.proofs.Afresh.{objects_held}
use Rattle.tape.specs.Sweep.{Swept}
use Rattle.tape.specs.declared.BlockFault.{BlockFault}
use Rattle.index.specs.Table.{place_length, places_in, places_limit}
use Rattle.index.proofs.Cuts.{filled_indexed}
use Rattle.state.specs.Changes.{mounted_as}
use Rattle.state.specs.declared.Unit.{Unit}
use Rattle.state.proofs.Legal.{legal_mounted}
use Rattle.state.proofs.Behind.{by_check}
use Rattle.state.specs.declared.refusal.Refusal.{Refusal}
use Rattle.state.specs.declared.refusal.Refusal.TheVariants as refusal
use Rattle.commands.specs.Answers.{Answer}
use Rattle.commands.specs.declared.plans.Done.TheVariants as answer
use Rattle.unit.specs.Mounts.{mount_call_under, mount_refusal, mount_swept}
use Rattle.unit.proofs.Accepted.{Accepts, accepts}
use Rattle.worlds.specs.declared.Session.{Session}
use Rattle.worlds.specs.Worlds.{Outcome}
use Rattle.worlds.specs.Refusals.{journal_limit}
use Rattle.worlds.specs.Calls.{mount_on, mounted_by, session, table_mounted}
use Rattle.worlds.proofs.Passing.{let_pass}
use Rattle.worlds.specs.Passes.{Fit}
use Rattle.sessions.specs.Session.{refused, stepped}
use Rattle.sessions.specs.Calling.{journal_of, length_of, step_kind, world_from}
use Rattle.kept.specs.Formed.{Formed}
use Rattle.sessions.specs.Good.{CoreIndexed, Fresh, mount_moment}
use Rattle.sessions.proofs.Keeping.{first_bound}
use Rattle.sessions.proofs.Taken.{refused_none}

-- the state of a mount
abbrev mount_unit : ℕ → ℕ → ℕ → Bool → Bool → Unit
mount_unit memory reel e online locked = mounted_as e online locked (record { memory = memory; blocks = reel / block_bytes })

-- a refusal is no "done"
not_done : {P : Type 0} (k : Refusal) → ◌≡◌ {A = Answer} (Err k) (Ok (answer.Step false)) → P
unfolding step_kind
not_done k e = let z : refused ≡ stepped = ap step_kind e in refused_none z

-- what a mount that was done has found
pub record MountDone (old : Session) (memory : ℕ) (r : List ℕ) (table journal e : ℕ) (online locked : Bool) : Type 0 where
  pub accepts : Accepts memory (length r) e
  pub limit : journal ≤ journal_limit
  pub swept : swept_below r e ≡ Ok tt
  pub places : length (objects_in r e) ≤ places_in table
  pub is : (mount_on old memory r table journal e online locked).session ≡ session (mount_unit memory (length r) e online locked) (length (objects_in r e)) 0 journal

module _ (old : Session) (memory : ℕ) (r : List ℕ) (table journal e : ℕ) (online locked : Bool) where
  -- by what the sweep found
  abbrev by : Swept → Outcome
  by x = mounted_by old table journal (objects_in r e) (mount_swept (mount_unit memory (length r) e online locked) x)

  swept_done : (x : Swept) → (by x).answer ≡ Ok (answer.Step false)
      → (x ≡ Ok tt) × (length (objects_in r e) ≤ places_in table) × ((by x).session ≡ session (mount_unit memory (length r) e online locked) (length (objects_in r e)) 0 journal)
  unfolding mount_swept mounted_by
  swept_done (Ok u) k =
      let few : Bool = ltb (places_in table) (length (objects_in r e)) in
      by_test few
      (λ t. let y : ◌≡◌ {A = Answer} (Err refusal.Table) (Ok (answer.Step false)) = rw t at k in not_done _ y)
      (λ t. (refl, ltb-false (places_in table) (length (objects_in r e)) t, rw t))
  swept_done (Err d) k = not_done _ k

  pub mount_done : (mount_on old memory r table journal e online locked).answer ≡ Ok (answer.Step false) → MountDone old memory r table journal e online locked
  unfolding mount_on mount_call_under
  mount_done k =
      by_check (mount_refusal memory (length r) e)
      (λ t. by_test (ltb journal_limit journal)
      (λ v. let y : ◌≡◌ {A = Answer} (Err refusal.Journal) (Ok (answer.Step false)) = rw (t, v) at k in not_done _ y)
      (λ v.
      let y : (by (swept_below r e)).answer ≡ Ok (answer.Step false) = rw (t, v) at k in
      let z = swept_done (swept_below r e) y in
      record {
        accepts = accepts memory (length r) e t;
        limit = ltb-false journal_limit journal v;
        swept = z.0;
        places = z.1;
        is = rw (t, v) z.2;
      }))
      (λ x t. let y : ◌≡◌ {A = Answer} (Err x) (Ok (answer.Step false)) = rw t at k in not_done x y)

module _ (old : Session) (m r tb : List ℕ) (journal e : ℕ) (online locked : Bool) (k : (mount_on old (length m) r (length tb) journal e online locked).answer ≡ Ok (answer.Step false)) where
  found : MountDone old (length m) r (length tb) journal e online locked
  found = mount_done old (length m) r (length tb) journal e online locked k

  pub mount_session : (mount_on old (length m) r (length tb) journal e online locked).session ≡ session (mount_unit (length m) (length r) e online locked) (length (objects_in r e)) 0 journal
  mount_session = found.is

  pub mounted_fit : Fit journal (world_from journal (mount_moment old m r tb journal e online locked))
  unfolding mounted_as length_of journal_of
  mounted_fit =
      let a = found.accepts in
      rw found.is
      (record {
        sound = let_pass (session (mount_unit (length m) (length r) e online locked) (length (objects_in r e)) 0 journal) (length m) (length r) journal
            (record {
              legal = legal_mounted (length m) (length r / block_bytes) e online locked a.memory_right_lem a.blocks_right_lem a.below;
              memory_is = refl;
              reel_is = a.whole;
              used = omega arith;
              limit = found.limit;
              journal_is = refl;
            });
        whole = refl;
        named = omega arith;
      })

  -- its places can be counted in four bytes
  pub mounted_few : (world_from journal (mount_moment old m r tb journal e online locked)).core.objects ≤ places_limit
  unfolding mounted_as
  mounted_few = rw found.is (omega (arith, found.places, min-le_right (length tb / place_length) places_limit))

  module _ (bytes : Bytes r) where
    held : Holds r e (objects_in r e)
    held = objects_held bytes found.swept

    -- the reel of a mount is well formed, and the tape stands at its first block
    mounted_formed : Formed r (mount_on old (length m) r (length tb) journal e online locked).session.unit.tape
    unfolding mounted_as
    mounted_formed = rw found.is (objects_in r e, held, first_bound (objects_in r e))

    -- its table is that of the objects below the end
    mounted_indexed : CoreIndexed (mount_moment old m r tb journal e online locked).core
    unfolding mounted_as table_mounted
    mounted_indexed = rw (found.is, k) (filled_indexed tb held (omega (arith, found.places)))

    -- a mount begins a session
    pub mounted : Fresh journal (mount_moment old m r tb journal e online locked)
    mounted = record { good = record { fit = mounted_fit; formed = mounted_formed; indexed = mounted_indexed }; none = refl }
