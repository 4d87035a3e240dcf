-- "of exactly 128 bytes plus the memory and reel bytes that step stored", and eight for each object written: the entry of each step that stands, of whichever transport;
-- and of a host store 128 bytes and those stored.
use mathlib.Core.Path.{◌≡◌, refl, sym}
use mathlib.Core.Bool.{Bool}
use mathlib.Core.List.{List, []}
use Prim.Native.Nat.{ℕ}
use lib.ListN.{length}
use Rattle.std.specs.Prelude.{Ok}
use Rattle.lists.specs.Places.{placed}
use Rattle.lists.proofs.Placed.{placed_plain}
use Rattle.lists.proofs.Cases.{pick_told}
use Rattle.tape.proofs.Accepted.{clash}
use Rattle.commands.specs.declared.plans.Done.TheVariants as answer
use Rattle.unit.specs.Asks.{host_store}
use Rattle.unit.specs.Cores.{Core}
use Rattle.unit.specs.Steps.{Step, step_of, store_wrong, stored}
use Rattle.unit.specs.Stores.{Stores, bytes_of}
use Rattle.unit.specs.Touching.{host_touched}
use Rattle.unit.proofs.Stored.{stores}
use Rattle.worlds.specs.Worlds.{World, session_of}
use Rattle.worlds.specs.Coupled.{host_at, lifted_none, view_of, view_of_none}
use Rattle.worlds.proofs.Passing.{core_accepted, passed}
use Rattle.sessions.specs.Good.{Each, and_of, of_none}
use Rattle.sessions.specs.Session.{Done, Ran, and_did, and_not, and_saw, and_undid, start, stepped, stood}
use Rattle.sessions.proofs.Lengths.{asked_done, done_by, each_rest, entry_counts}
use Rattle.sessions.proofs.Taken.{read_none, sound_asked}
use Rattle.histories.specs.Calling.{Call, Here, call_kind, calls, core_for, coupled_from, doing, kind_now, name_of, on_call, read_register, step, store}
use Rattle.histories.specs.Good.{EntryLong, bytes_at}
use Rattle.histories.proofs.Taking.{step_taken, store_taken}

-- a host store that is answered "done" stores its bytes, in a core that none of refusals 1 to 3 has seen (`store_stores` of unit/proofs/Stored says so too, and isn't handed on)
store_stores : (c : Core) (place : ℕ) (bytes : List ℕ) (i : Bool) → (step_of (host_store place bytes) c).answer ≡ Ok (answer.Step i) → Stores c (step_of (host_store place bytes) c) (bytes_of (host_store place bytes) c)
unfolding step_of stored host_touched placed bytes_of
store_stores c place bytes i =
    pick_told (λ (x : Step). x.answer ≡ Ok (answer.Step i) → Stores c x (record { data_stored = bytes; message_stored = []; reel_stored = []; table_stored = []; objects = [] })) (store_wrong (length c.memory) place (length bytes)) _ _
    (λ t e. absurd (clash cc))
    (λ t e. record {
      memory = sym (placed_plain c.memory place bytes);
      reel = refl;
      table = refl;
      data_long = refl;
      message_long = refl;
      reel_long = refl;
      table_long = refl;
      places = refl;
    })

module _ (n : ℕ) where
  -- the bytes that a step stored: that its checks had passed is what its answer says
  pub call_stores : (c : Call) (s : Here) → kind_now n c s ≡ stepped → Stores (core_for c s.core) (doing c s.core) (bytes_at c s.core)
  unfolding on_call call_kind core_for doing bytes_at host_at lifted_none
  call_stores (step k a h) s e =
      let v : World = view_of k (coupled_from n s) in
      let t = step_taken n (coupled_from n s) k a e in
      let ok = core_accepted v n (passed (session_of v) (length v.core.memory) (length v.core.reel) n (sound_asked n v a t.kind)) in
      let d = asked_done n v a t.kind in
      stores a v.core d.0 ok d.1
  call_stores (store place bytes) s e =
      let v : World = view_of_none (coupled_from n s) in
      let x : Step = step_of (host_store place bytes) v.core in
      let d = done_by v x x.answer (store_taken n place bytes v e).kind in
      store_stores v.core place bytes d.0 d.1
  call_stores (read_register k r) s e = read_none _ e

  -- and that its entry counts them
  step_long : (c : Call) (s : Here) → kind_now n c s ≡ stepped → EntryLong n (record { call = c; was = s })
  step_long c s e =
      let x = call_stores c s e in
      record { stores = x; long = entry_counts (name_of c) (core_for c s.core) (doing c s.core) (bytes_at c s.core) x }

  -- each entry has exactly that length; nothing is asked of how the session began
  pub entries_long : {s₀ s : Here} {l : List (Done (calls n))} → (r : Ran (calls n) s₀ l s) → Each (EntryLong n) (stood (calls n) r)
  unfolding stood
  entries_long start = of_none
  entries_long (and_did {k = c} {s = s} r kd an st) = and_of (step_long c s kd) (entries_long r)
  entries_long (and_saw r kd an) = entries_long r
  entries_long (and_not r kd an) = entries_long r
  entries_long (and_undid r q st) = each_rest (entries_long r)
