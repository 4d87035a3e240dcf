-- "take a run without step back, later mounts, or refusals for room or index, and delete every step of the other units. If the bytes the remaining unit reads from memory are
-- the same, its registers, messages, reel and position are too." (02, [9]) A run is a list of calls, oldest first.
use Rattle.std.specs.Prelude.{Err}
use Rattle.std.specs.Prelude.{Bool, true, false, List, [], ◌∷◌, ◌⊎◌, ◌≡◌, ℕ, eqb}
use Rattle.lists.specs.Pick.{pick}
use Rattle.state.specs.declared.refusal.Refusal.TheVariants as refusal
use Rattle.commands.specs.Answers.{is_step}
use Rattle.commands.specs.Answers.{Answer}
use Rattle.unit.specs.Asks.{advance}
use Rattle.unit.specs.Stores.{StepBytes, no_bytes}
use Rattle.worlds.specs.Coupled.{core_of, deck_at}
use Rattle.sessions.specs.Session.{does, stepped}
use Rattle.histories.specs.Calling.{Call, Here, calls, coupled_from, doing, kind_now, on_call, read_register, step, store}
use Rattle.histories.specs.Good.{bytes_at}
use Rattle.isolation.specs.Reads.{ReadsAt, SameRead, TouchesAt}

-- whose call it is: of unit u, or of no unit; "Host stores belong to no unit", and stay
unfoldable pub is_of : ℕ → Call → Bool
is_of u (step k a h) = eqb k u
is_of u (store place bytes) = false
is_of u (read_register k r) = eqb k u

unfoldable pub remains : ℕ → Call → Bool
remains u (step k a h) = eqb k u
remains u (store place bytes) = true
remains u (read_register k r) = eqb k u

-- the moment after the calls, with a journal of n bytes
unfoldable pub ran : ℕ → List Call → Here → Here
ran n [] s = s
ran n (c ∷ cs) s = ran n cs (does (calls n) c s)

-- the run without the calls of the other units
unfoldable pub without : ℕ → List Call → List Call
without u [] = []
without u (c ∷ cs) = pick (remains u c) (c ∷ without u cs) (without u cs)

-- "refusals for room or index": 9 and 11
abbrev pub Refusal : Answer → Type 0
Refusal a = (a ≡ Err refusal.Room) ⊎ (a ≡ Err refusal.Table)

-- no call that remains is refused so
pub data Unrefused (n u : ℕ) : List Call → Here → Type 0 where
  none : {s : Here} → Unrefused n u [] s
  one : {c : Call} {cs : List Call} {s : Here}
      → (remains u c ≡ true → Refusal (on_call n c (coupled_from n s)).answer → ⊥) → Unrefused n u cs (does (calls n) c s) → Unrefused n u (c ∷ cs) s

-- an advance of unit u
abbrev pub IsAdvance : ℕ → Call → Type 0
IsAdvance u (step k a h) = (k ≡ u) × (a ≡ advance)
IsAdvance u (store place bytes) = ⊥
IsAdvance u (read_register k r) = ⊥

-- each advance of unit u reads the same bytes in the run from s and in the one without the others from t
pub data ReadsSame (n u : ℕ) : List Call → Here → Here → Type 0 where
  none : {s t : Here} → ReadsSame n u [] s t
  one : {c : Call} {cs : List Call} {s t : Here}
      → (IsAdvance u c → SameRead (core_of u s.core).unit s.core.memory t.core.memory)
      → ReadsSame n u cs (does (calls n) c s) (pick (remains u c) (does (calls n) c t) t) → ReadsSame n u (c ∷ cs) s t

-- what is seen of unit u: the answer of each of its calls, and the bytes that its steps store: messages, data, blocks, places of the table
pub record Seen : Type 0 where
  pub answer : Answer
  pub bytes : StepBytes

unfoldable pub sight_of : ℕ → Call → Here → Seen
sight_of n c s =
    record {
      answer = (on_call n c (coupled_from n s)).answer;
      bytes = pick (is_step (on_call n c (coupled_from n s)).answer) (bytes_at c s.core) no_bytes;
    }

unfoldable pub seen : ℕ → ℕ → List Call → Here → List Seen
seen n u [] s = []
seen n u (c ∷ cs) s =
    pick (is_of u c) (sight_of n c s ∷ seen n u cs (does (calls n) c s)) (seen n u cs (does (calls n) c s))

-- the unit is not disturbed: its record (registers and position among its numbers), reel and table end the same, and all that was seen of it on the way is
pub record Undisturbed (n u : ℕ) (cs : List Call) (s : Here) : Type 0 where
  pub deck : deck_at (ran n cs s).core u ≡ deck_at (ran n (without u cs) s).core u
  pub sight : seen n u cs s ≡ seen n u (without u cs) s

-- what a user sees to: a region of memory, given as a test, in which every advance of unit u reads, and no step of another unit stores
pub data Apart (n u : ℕ) (R : ℕ → Bool) : List Call → Here → Type 0 where
  none : {s : Here} → Apart n u R [] s
  one : {c : Call} {cs : List Call} {s : Here}
      → (IsAdvance u c → (j : ℕ) → ReadsAt (core_of u s.core).unit s.core.memory j → R j ≡ true)
      → (remains u c ≡ false → kind_now n c s ≡ stepped → (j : ℕ) → TouchesAt (doing c s.core).touched j → R j ≡ true → ⊥)
      → Apart n u R cs (does (calls n) c s) → Apart n u R (c ∷ cs) s
