-- Demand 3 of a session over the row, whole: what holds at its end s, where the transports ks have been mounted and the log l led from the last mount's moment s₀ to s.
use Rattle.std.specs.Prelude.{Ok}
use Rattle.std.specs.Prelude.{true, false, List, [], ◌∷◌, map, ◌≡◌, ℕ, ◌≤◌, length}
use Rattle.state.specs.declared.refusal.Refusal.TheVariants as refusal
use Rattle.state.specs.Refusals.{block_of, fault_of}
use Rattle.state.specs.declared.refusal.Refusal.{Refusal}
use Rattle.commands.specs.declared.plans.Done.TheVariants as answer
use Rattle.worlds.specs.Coupled.{Coupled, CoupledAnswer, back_over, is_absent, lifted, refused_with, told, view_of}
use Rattle.worlds.specs.Worlds.{Answered}
use Rattle.sessions.specs.Advancing.{Comes}
use Rattle.sessions.specs.Good.{Each}
use Rattle.sessions.specs.Session.{Done, Ran, back, before, entry_of, stood, strike}
use Rattle.histories.specs.Calling.{Call, Here, Noted, back_calls, calls, coupled_from, on_call}
use Rattle.histories.specs.Good.{EntryLong, Good}
use Rattle.histories.specs.Room.{Exactly, Steppable}

-- what a call of advance of transport k comes to: 12 where it is absent; else what its own world comes to, under the conditions of document 01 (`Comes`), in its place
pub data AdvanceComes (n : ℕ) (w : Coupled) (k : ℕ) (x : CoupledAnswer) : Type 0 where
  absent : is_absent w k ≡ true → x ≡ refused_with refusal.Absent w → AdvanceComes n w k x
  present : {y : Answered} → is_absent w k ≡ false → Comes n (view_of k w) y → x ≡ lifted k w y → AdvanceComes n w k x

-- what a call of step back comes to at a moment s, whatever else stands in the row: it is refused, by no block, and leaves everything, or it brings the newest entry back
pub data BackComes (n : ℕ) (s : Here) (x : CoupledAnswer) : Type 0 where
  stayed : {k : Refusal} → block_of k ≡ 0 → fault_of k ≡ 0 → x ≡ refused_with k (coupled_from n s) → BackComes n s x
  went_back : {e : Noted} {es : List Noted} → s.entries ≡ e ∷ es → x ≡ told (Ok (answer.Step false)) (coupled_from n (back (calls n) s)) → BackComes n s x

pub record History (n : ℕ) (ks : List ℕ) {s₀ s : Here} {l : List (Done (calls n))} (r : Ran (calls n) s₀ l s) : Type 0 where
  -- of each of ks "the reel is well formed, the position is 0 or just after an object", the table is worked out afresh from the reel, and no check refuses
  pub good : Good n ks s
  -- "the journal holds one entry per step taken and still standing", of exactly its length
  pub entries : s.entries ≡ map (entry_of (calls n)) (stood (calls n) r)
  pub long : Each (EntryLong n) (stood (calls n) r)
  -- "Step back undoes the newest step of any unit"; with none it is refused with 6; and k of them give what stood before the earliest of those k
  pub newest : {e : Noted} {es : List Noted} → s.entries ≡ e ∷ es → back_over (coupled_from n s) n ≡ told (Ok (answer.Step false)) (coupled_from n (back (calls n) s))
  pub no_entry : s.entries ≡ [] → back_over (coupled_from n s) n ≡ refused_with refusal.Empty (coupled_from n s)
  pub going_back : (k : ℕ) → k ≤ length (stood (calls n) r) → back_calls n k (coupled_from n s) ≡ coupled_from n (before (calls n) r k)
  -- "a step is refused for room exactly when its entry doesn't fit"
  pub room : (c : Call) → Steppable c s.core → Exactly (coupled_from n s) c (on_call n c (coupled_from n s))
  -- what was undone never was
  pub never_was : Ran (calls n) s₀ (strike (calls n) l) s
