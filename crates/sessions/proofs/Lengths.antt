-- "of exactly 128 bytes plus the memory and reel bytes that step stored", and eight for each object written: the entry of each step that stands.
use mathlib.Core.Path.{◌≡◌, refl}
use mathlib.Core.Bool.{Bool}
use mathlib.Core.List.{List}
use Prim.Native.Nat.{ℕ}
use native.Mathlib.Omega.{arith}
use lib.ListN.{drop}
use Rattle.std.specs.Prelude.{Ok, Err}
use Rattle.commands.specs.Answers.{Answer}
use Rattle.commands.specs.declared.plans.Done.TheVariants as answer
use Rattle.unit.specs.Asks.{Ask}
use Rattle.unit.specs.Cores.{Admitted, Core}
use Rattle.unit.specs.Steps.{Step, step_of}
use Rattle.unit.specs.Stores.{StepBytes, Stores}
use Rattle.unit.proofs.Stored.{stores}
use Rattle.entries.specs.Entries.{entry_length}
use Rattle.worlds.specs.Worlds.{World}
use Rattle.worlds.specs.Calls.{entry_for, step_on, taken_by}
use Rattle.sessions.specs.Session.{Done, Ran, and_did, and_not, and_saw, and_undid, start, stepped, stood}
use Rattle.sessions.specs.Calling.{Call, Here, call_kind, calls, doing, kind_now, on_call, read_register, step, step_kind, world_from}
use Rattle.sessions.specs.Good.{Each, EntryLong, Fresh, Good, Steppable, and_of, bytes_at, long_for, of_none}
use Rattle.sessions.proofs.Calls.{always_good}
use Rattle.sessions.proofs.Taken.{accepts, let_through, looked_none, read_none, refused_none, sound_guarded}

-- what holds of each holds of each but the first
pub each_rest : {A : Type 0} {P : A → Type 0} {l : List A} → Each P l → Each P (drop 1 l)
each_rest of_none = of_none
each_rest (and_of p ps) = ps

-- only a step that is answered "done" is taken
pub done_by : (w : World) (x : Step) (a : Answer) → step_kind (taken_by w x a).answer ≡ stepped → (i : Bool) × (a ≡ Ok (answer.Step i))
unfolding taken_by step_kind
done_by w x (Ok (answer.Step i)) k = (i, refl)
done_by w x (Ok answer.Idle) k = looked_none k
done_by w x (Err j) k = refused_none k

pub asked_done : (n : ℕ) (w : World) (a : Ask) → step_kind (step_on w n a).answer ≡ stepped → (i : Bool) × ((step_of a w.core).answer ≡ Ok (answer.Step i))
unfolding step_on
asked_done n w a k =
    let x : Step = step_of a w.core in
    let pass = let_through n w (sound_guarded n w _ k) (taken_by w x x.answer) in
    done_by w x x.answer (rw pass at k)

taken_done : (n : ℕ) (w : World) (c : Call) → call_kind c (on_call n c w).answer ≡ stepped → Steppable c w.core
unfolding call_kind on_call
taken_done n w (step a h) k = asked_done n w a k
taken_done n w (read_register r) k = read_none _ k

-- the bytes that such a call stored
call_stores : (c : Call) (d : Core) → Admitted d → Steppable c d → Stores d (doing c d) (bytes_at c d)
unfolding doing bytes_at
call_stores (step a h) d f x = stores a d x.0 f x.1
call_stores (read_register r) d f x = absurd x

-- and that its entry counts them
pub entry_counts : (k : ℕ) (c : Core) (y : Step) (b : StepBytes) → Stores c y b → entry_length (entry_for k c y) ≡ long_for b
unfolding entry_length entry_for
entry_counts k c y b x = omega (arith, x.data_long, x.message_long, x.reel_long, x.places)

module _ (n : ℕ) where
  step_long : (c : Call) (s : Here) → Good n s → kind_now n c s ≡ stepped → EntryLong n (record { call = c; was = s })
  step_long c s f k =
      let x = call_stores c s.core (accepts n (world_from n s) f.fit) (taken_done n (world_from n s) c k) in
      record { stores = x; long = entry_counts 0 s.core (doing c s.core) (bytes_at c s.core) x }

  -- each entry has exactly that length
  pub entries_long : {s₀ s : Here} {l : List (Done (calls n))} → Fresh n s₀ → (r : Ran (calls n) s₀ l s) → Each (EntryLong n) (stood (calls n) r)
  unfolding stood
  entries_long f start = of_none
  entries_long f (and_did {k = c} {s = s} r kd an st) = and_of (step_long c s (always_good n f r) kd) (entries_long f r)
  entries_long f (and_saw r kd an) = entries_long f r
  entries_long f (and_not r kd an) = entries_long f r
  entries_long f (and_undid r q st) = each_rest (entries_long f r)
