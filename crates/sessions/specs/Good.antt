-- What every moment of a session from a mount on has, and what a session begins with.
use Rattle.std.specs.Prelude.{Ok, Err}
use Rattle.std.specs.Prelude.{List, [], ◌∷◌, ◌⊎◌, ◌≡◌, Bool, ℕ, ◌+◌, ◌-◌, ◌*◌, ◌<◌, length}
use Rattle.tape.specs.Afresh.{objects_in}
use Rattle.index.specs.Table.{Indexed, place_length, places_in}
use Rattle.kept.specs.Formed.{Formed}
use Rattle.state.specs.declared.refusal.Refusal.TheVariants as refusal
use Rattle.commands.specs.declared.plans.Done.TheVariants as answer
use Rattle.unit.specs.Cores.{Core}
use Rattle.unit.specs.Steps.{Step, step_of}
use Rattle.unit.specs.Stores.{StepBytes, Stores, bytes_of, no_bytes}
use Rattle.entries.specs.Entries.{entry_length}
use Rattle.entries.specs.declared.Entry.{Entry}
use Rattle.worlds.specs.declared.Session.{Session}
use Rattle.worlds.specs.Worlds.{Answered, Ledger, World}
use Rattle.worlds.specs.Passes.{Fit}
use Rattle.worlds.specs.Calls.{mount_on, refused_as, table_mounted}
use Rattle.sessions.specs.Calling.{Call, Here, calls, doing, entry_at, read_register, step, world_from}
use Rattle.sessions.specs.Session.{Standing}

-- "the reel is well formed, the position is 0 or just after an object"
abbrev pub CoreFormed : Core → Type 0
CoreFormed c = Formed c.reel c.unit.tape

-- "it is after every accepted call the table worked out afresh from the reel, and the used part alone is promised" (02, [8])
abbrev pub CoreIndexed : Core → Type 0
CoreIndexed c = Indexed c.reel c.unit.tape.end c.table c.objects

-- what every moment of a session has
pub record Good (n : ℕ) (s : Here) : Type 0 where
  pub fit : Fit n (world_from n s)
  pub formed : CoreFormed s.core
  pub indexed : CoreIndexed s.core

-- a session begins with no entry
pub record Fresh (n : ℕ) (s : Here) : Type 0 where
  pub good : Good n s
  pub none : s.entries ≡ []

-- "of exactly 128 bytes plus the memory and reel bytes that step stored", and "eight bytes for each table place filled, one an object written" (02, [8]): the
-- entry of a step that stands, and the bytes that it stored
unfoldable pub bytes_at : Call → Core → StepBytes
bytes_at (step a h) c = bytes_of a c
bytes_at (read_register r) c = no_bytes

-- an entry's length for these bytes
abbrev pub long_for : StepBytes → ℕ
long_for b = 128 + length b.data_stored + length b.message_stored + length b.reel_stored + place_length * length b.objects

pub record EntryLong (n : ℕ) (x : Standing (calls n)) : Type 0 where
  pub stores : Stores x.was.core (doing x.call x.was.core) (bytes_at x.call x.was.core)
  pub long : entry_length (entry_at 0 x.call x.was.core) ≡ long_for (bytes_at x.call x.was.core)

-- it holds of each in a list
pub data Each {A : Type 0} (P : A → Type 0) : List A → Type 0 where
  of_none : Each P []
  and_of : {x : A} {xs : List A} → P x → Each P xs → Each P (x ∷ xs)

-- the moment that a mount leaves
abbrev pub mount_moment : Session → List ℕ → List ℕ → List ℕ → ℕ → ℕ → Bool → Bool → Here
mount_moment old m r tb journal e online locked =
    let o = mount_on old (length m) r (length tb) journal e online locked in
    record {
      core =
          record {
            unit = o.session.unit;
            objects = o.session.objects;
            memory = m;
            reel = r;
            table = table_mounted tb (objects_in r e) o.answer;
          };
      entries = [];
    }

-- a call that is no reading, that neither 5 nor 7 refuses, and that is no idle advance
abbrev pub Steppable : Call → Core → Type 0
Steppable (step a h) c = (i : Bool) × ((step_of a c).answer ≡ Ok (answer.Step i))
Steppable (read_register r) c = ⊥

-- the free journal is less than the entry
abbrev pub NoRoom : Ledger → Entry → Type 0
NoRoom l e = l.length - l.used < entry_length e

-- "11 when the table is too small for the objects": for those that it holds, or for those that the step x leaves
abbrev pub NoPlace : Core → Step → Type 0
NoPlace c x = (places_in (length c.table) < c.objects) ⊎ (places_in (length c.table) < x.after.objects)

-- "a step is refused for room exactly when its entry doesn't fit", and then all is as it was; 11 comes before 9, and is given exactly when the table is too
-- small
pub record Exactly (w : World) (s : Step) (e : Entry) (x : Answered) : Type 0 where
  pub nine : x.answer ≡ Err refusal.Room → NoRoom w.ledger e
  pub no_room : (NoPlace w.core s → ⊥) → NoRoom w.ledger e → x ≡ refused_as refusal.Room w
  pub eleven : x.answer ≡ Err refusal.Table → NoPlace w.core s
  pub no_place : NoPlace w.core s → x ≡ refused_as refusal.Table w
