-- How a shared history begins: "demand 3 speaks of the shared history since the last mount, every unit in the row by then mounted over the one memory and journal and demand
-- 3's other conditions kept from each unit's own mount on, later mounts of other units aside; mounting any unit empties the journal for all." (02, [9])
use Rattle.std.specs.Prelude.{Ok}
use Rattle.std.specs.Prelude.{Bool, false, List, [], ◌∷◌, ◌≡◌, ℕ, set}
use Rattle.lists.specs.Words.{Bytes}
use Rattle.commands.specs.declared.plans.Done.TheVariants as answer
use Rattle.worlds.specs.Coupled.{Coupled, Rig, deck_at, mount_at}
use Rattle.sessions.specs.Session.{Done, Ran}
use Rattle.histories.specs.Calling.{Here, calls, coupled_from}

-- a reel and a table put on transport k, before its mount
unfoldable pub loaded : ℕ → List ℕ → List ℕ → Rig → Rig
loaded k r tb g =
    record { decks = set g.decks k (record { transport = (deck_at g k).transport; reel = r; table = tb }); memory = g.memory; mounted = g.mounted }

-- a mount of transport k over the rig g, with a journal of n bytes
pub record Mount : Type 0 where
  pub unit : ℕ
  pub reel : List ℕ
  pub table : List ℕ
  pub end : ℕ
  pub online : Bool
  pub locked : Bool

-- what it leaves of a coupled world, if it is answered 0: the journal is empty
unfoldable pub mounted_from : ℕ → Mount → Coupled → Coupled
mounted_from n m w =
    (mount_at (record { rig = loaded m.unit m.reel m.table w.rig; ledger = w.ledger }) n m.unit m.end m.online m.locked).coupled

pub record Accepted (n : ℕ) (m : Mount) (w : Coupled) : Type 0 where
  pub bytes : Bytes m.reel
  pub done : (mount_at (record { rig = loaded m.unit m.reel m.table w.rig; ledger = w.ledger }) n m.unit m.end m.online m.locked).answer ≡ Ok (answer.Step false)

-- a history whose transports ks have been mounted, the newest first, and whose last mount left s: from any world at all a first mount; or, behind any calls since the
-- mount before, the mount of one transport more, or of one again
pub data Era (n : ℕ) : List ℕ → Here → Type 0 where
  first : {w : Coupled} {s : Here} (m : Mount) → Accepted n m w → s ≡ (record { core = (mounted_from n m w).rig; entries = [] }) → Era n (m.unit ∷ []) s
  again : {ks : List ℕ} {s₀ s₁ s : Here} {l : List (Done (calls n))} (m : Mount)
      → Era n ks s₀ → Ran (calls n) s₀ l s₁ → Accepted n m (coupled_from n s₁) → s ≡ (record { core = (mounted_from n m (coupled_from n s₁)).rig; entries = [] }) → Era n (m.unit ∷ ks) s
