-- What every moment of a shared history has. (02, [9])
use Rattle.std.specs.Prelude.{Ok}
use Rattle.std.specs.Prelude.{true, false, List, [], ◌∷◌, ◌≡◌, ℕ, length}
use Rattle.unit.specs.Stores.{StepBytes, Stores, bytes_of, no_bytes}
use Rattle.unit.specs.Asks.{host_store}
use Rattle.entries.specs.Entries.{entry_length}
use Rattle.worlds.specs.Coupled.{Coupled, Rig, core_of, coupler_in, deck_at, is_absent, view_of}
use Rattle.worlds.specs.Passes.{Fit}
use Rattle.worlds.specs.Rows.{coupler_checked, is_mounted}
use Rattle.sessions.specs.Good.{CoreFormed, CoreIndexed, long_for}
use Rattle.sessions.specs.Session.{Standing}
use Rattle.histories.specs.Calling.{Call, Here, calls, core_for, coupled_from, doing, entry_at, read_register, step, store}

-- k is one of them
pub data Among (k : ℕ) : List ℕ → Type 0 where
  here : {ks : List ℕ} → Among k (k ∷ ks)
  there : {j : ℕ} {ks : List ℕ} → Among k ks → Among k (j ∷ ks)

-- transport k: refusals 1 to 4 let it pass; "the reel is well formed, the position is 0 or just after an object"; its table is "the table worked out afresh from the reel"
pub record GoodDeck (n : ℕ) (w : Coupled) (k : ℕ) : Type 0 where
  pub fit : Fit n (view_of k w)
  pub formed : CoreFormed (core_of k w.rig)
  pub indexed : CoreIndexed (core_of k w.rig)

-- what every moment has, of the transports ks: the shared numbers are right, the journal holds as many bytes as are used, and each of these that is in the row is good
pub record Good (n : ℕ) (ks : List ℕ) (s : Here) : Type 0 where
  pub shared : coupler_checked (coupler_in (coupled_from n s)) (length s.core.memory) n ≡ Ok tt
  pub whole : length (coupled_from n s).ledger.bytes ≡ (coupled_from n s).ledger.used
  pub decks : (k : ℕ) → Among k ks → is_absent (coupled_from n s) k ≡ false → GoodDeck n (coupled_from n s) k

-- a history begins with no entry
pub record Fresh (n : ℕ) (ks : List ℕ) (s : Here) : Type 0 where
  pub good : Good n ks s
  pub none : s.entries ≡ []

-- "every unit in the row by then mounted": each transport that is present is one of ks
abbrev pub Every : List ℕ → Here → Type 0
Every ks s = (k : ℕ) → is_absent (coupled_from 0 s) k ≡ false → Among k ks

-- a transport in the row that was never mounted is passed over by a step back: it is enough for it that each that is mounted is one of ks
abbrev pub EveryMounted : List ℕ → Here → Type 0
EveryMounted ks s = (k : ℕ) → is_absent (coupled_from 0 s) k ≡ false → is_mounted (deck_at s.core k).transport ≡ true → Among k ks

-- "of exactly 128 bytes plus the memory and reel bytes that step stored", and eight for each object written: the entry of a step that stands, and the bytes that it stored
unfoldable pub bytes_at : Call → Rig → StepBytes
bytes_at (step k a h) g = bytes_of a (core_for (step k a h) g)
bytes_at (store place bytes) g = bytes_of (host_store place bytes) (core_for (store place bytes) g)
bytes_at (read_register k r) g = no_bytes

pub record EntryLong (n : ℕ) (x : Standing (calls n)) : Type 0 where
  pub stores : Stores (core_for x.call x.was.core) (doing x.call x.was.core) (bytes_at x.call x.was.core)
  pub long : entry_length (entry_at x.call x.was.core) ≡ long_for (bytes_at x.call x.was.core)
