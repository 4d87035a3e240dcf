-- What the checks have shown before a step is entered or undone. Lengths are in bytes.
use Rattle.std.specs.Prelude.{false, Result, Ok, Err, ⊤, List, ◌≡◌, ℕ, ◌+◌, ◌-◌, ◌≤◌, ltb, length}
use Rattle.lists.specs.Pick.{pick}
use Rattle.state.specs.Refusals.{behind}
use Rattle.state.specs.declared.refusal.Refusal.{Refusal}
use Rattle.state.specs.declared.refusal.Refusal.TheVariants as refusal
use Rattle.commands.specs.declared.plans.Plan.{Plan}
use Rattle.storing.specs.Stored.{Storable}
use Rattle.index.specs.declared.Cut.{Cut}
use Rattle.unit.specs.Steps.{cut_for, host_limit, objects_after, too_small}
use Rattle.entries.specs.Entries.{entry_bare}
use Rattle.worlds.specs.Calls.{undo_on}
use Rattle.worlds.specs.Refusals.{checked}
use Rattle.worlds.specs.Rows.{coupler_checked}
use Rattle.worlds.specs.declared.Coupler.{Coupler}
use Rattle.worlds.specs.Worlds.{Leaves, Outcome, world_of}
use Rattle.worlds.specs.declared.Session.{Session}

pub record Unrefused (s : Session) (memory reel journal : ℕ) : Type 0 where
  pub right : checked s memory reel journal ≡ Ok tt

pub record Ready (s : Session) (p : Plan) (memory reel journal : ℕ) : Type 0 where
  pub sound : Unrefused s memory reel journal
  pub storable : Storable p memory reel

-- a step whose table is large enough: it cuts the table tb at c, and leaves `top` places used
pub record CutReady (s : Session) (p : Plan) (c : Cut) (top : ℕ) (r tb : List ℕ) (memory journal : ℕ) : Type 0 where
  pub ready : Ready s p memory (length r) journal
  pub cut : c ≡ cut_for p.laid tb s.objects r
  pub after : top ≡ objects_after p.laid c s.objects
  pub large : too_small (length tb) s.objects top ≡ false

pub record HostReady (s : Session) (memory reel journal place n : ℕ) : Type 0 where
  pub sound : Unrefused s memory reel journal
  pub short : n ≤ host_limit
  pub inside : place + n ≤ memory

pub record Undoable (s : Session) (memory reel journal : ℕ) : Type 0 where
  pub sound : Unrefused s memory reel journal
  pub bare : entry_bare ≤ s.used

-- the first of refusals 1 to 4, 11 and 9 of a step that changes the state alone: its entry saves no bytes, and the objects stay
unfoldable pub change_refusal : Session → ℕ → ℕ → ℕ → ℕ → Result ⊤ Refusal
change_refusal s memory reel table journal =
    behind (checked s memory reel journal) (λ r. Err r)
    (pick (too_small table s.objects s.objects) (Err refusal.Table) (pick (ltb (s.journal - s.used) entry_bare) (Err refusal.Room) (Ok tt)))

-- a host store that 1, 2, 4 and 5 let pass, and a step back over one that 1 to 4 and 6 do
pub record StoreReady (c : Coupler) (memory journal place n : ℕ) : Type 0 where
  pub right : coupler_checked c memory journal ≡ Ok tt
  pub short : n ≤ host_limit
  pub inside : place + n ≤ memory

pub record NoneUndoable (c : Coupler) (memory journal : ℕ) : Type 0 where
  pub right : coupler_checked c memory journal ≡ Ok tt
  pub long : entry_bare ≤ c.used

-- the newest entry brought back, whichever transport's it is
abbrev pub Undoes : Session → List ℕ → List ℕ → List ℕ → List ℕ → Outcome → List ℕ → List ℕ → List ℕ → Type 0
Undoes s m r tb j o m' r' tb' = (k : ℕ) → Leaves (undo_on (world_of k s m r tb j)) j o m' r' tb' j
