-- What always holds of the bytes that a host holds, from a mount on.
use mathlib.Core.List.{List, [], ◌∷◌}
use mathlib.Core.Path.{◌≡◌, sym, ap, subst, ◌∙◌}
use Prim.Native.Nat.{ℕ}
use lib.ListN.{length}
use Rattle.worlds.specs.Worlds.{World}
use Rattle.worlds.specs.Passes.{Fit}
use Rattle.sessions.specs.Session.{Done, Ran, back, stood}
use Rattle.sessions.specs.Calling.{Call, Noted, calls, doing, entry_at, world_from}
use Rattle.kept.specs.Formed.{Formed}
use Rattle.sessions.specs.Good.{CoreIndexed, Each, EntryLong, Exactly, Good, Steppable}
use Rattle.sessions.proofs.Calls.{always_good, entry_each, never_was}
use Rattle.sessions.proofs.Lengths.{entries_long}
use Rattle.sessions.proofs.Room.{room_exactly}
use Rattle.sessions.proofs.Striking.{one_end}
use Rattle.ts11.specs.Given.{Host, back_given, world_in}
use Rattle.surface.specs.Hosting.{AtMoment, Begins, Entries, GoodHost, Hosted, Line, Returned, Unchanged, first, given}
use Rattle.surface.specs.Following.{Follows, stands}
use Rattle.surface.proofs.Goes.{world_bytes}
use Rattle.surface.proofs.Runs.{given_is}
use Rattle.surface.proofs.Hosts.{back_empty, back_one, host_ran}

module _ {h₀ h : Host} {d : List Line} (s : Begins h₀) (r : Hosted h₀ d h) where
  abbrev n : ℕ
  n = length h₀.journal

  abbrev follows : Follows n (first h₀) d h
  follows = host_ran s r

  -- no check refuses, the reel is well formed, the position is 0 or just after an object, and the table is the one worked out afresh from the reel
  pub host_good : GoodHost h
  host_good =
      let good : Good n follows.moment = always_good n s.fresh follows.ran in
      record {
        fit = subst (λ (i : ℕ). Fit i (world_in h)) (sym follows.here.long) (subst (Fit n) follows.here.world good.fit);
        formed = subst (λ (w : World). Formed w.core.reel w.core.unit.tape) follows.here.world good.formed;
        indexed = subst (λ (w : World). CoreIndexed w.core) follows.here.world good.indexed;
      }

  -- a step is refused for room exactly when its entry doesn't fit, and for places exactly when the table is too small
  pub host_room : (c : Call) → Steppable c (world_in h).core → Exactly (world_in h) (doing c (world_in h).core) (entry_at 0 c (world_in h).core) (given c h)
  host_room c x =
      subst (Exactly (world_in h) (doing c (world_in h).core) (entry_at 0 c (world_in h).core)) (sym (given_is c h follows.here.block)) (room_exactly (length h.journal) c (world_in h) host_good.fit x)

-- Whatever session of the model the host's log follows; `host_ran` says that there is one.
module _ {h₀ h : Host} {d : List Line} (s : Begins h₀) (f : Follows (length h₀.journal) (first h₀) d h) where
  -- one entry for each step that stands, and it is that step's
  pub host_journal : Entries h (length h₀.journal) (stood (calls (length h₀.journal)) f.ran)
  host_journal =
      record {
        noted = f.moment.entries;
        each = entry_each (length h₀.journal) s.fresh f.ran;
        used = ap (λ (w : World). w.ledger.used) (sym f.here.world);
        bytes = ap (λ (w : World). w.ledger.bytes) (sym f.here.world);
      }

  -- and it is 128 bytes, those that the step stored, and eight for each place that it filled
  pub host_entries_long : Each (EntryLong (length h₀.journal)) (stood (calls (length h₀.journal)) f.ran)
  host_entries_long = entries_long (length h₀.journal) s.fresh f.ran

  -- a step back leads where the model's leads, to the moment before the newest step that stands; where none stands it returns 6 and changes nothing
  module _ {h' : Host} {k : ℕ} (g : Returned h (back_given h) k h') where
    pub host_back : {e : Noted} {es : List Noted} → f.moment.entries ≡ e ∷ es → (k ≡ 0) × AtMoment (length h₀.journal) (back (calls (length h₀.journal)) f.moment) h'
    host_back = back_one f s.fresh g

    pub host_none : f.moment.entries ≡ [] → (k ≡ 6) × Unchanged h h'
    host_none q =
        let z = back_empty f s.fresh g q in
        (z.0, world_bytes f.here.block z.1.block (sym z.1.world ∙ f.here.world))

-- what was undone never was, byte for byte: two runs whose steps that stand are the same end in the same block, memory, reel, table and used journal
pub same_bytes : {h₀ h h₂ : Host} {d d₂ : List Line} → Begins h₀ → (f : Follows (length h₀.journal) (first h₀) d h) (g : Follows (length h₀.journal) (first h₀) d₂ h₂) → stands f ≡ stands g → Unchanged h h₂
same_bytes {h₀} {h} {h₂} s f g e =
    let n : ℕ = length h₀.journal in
    let last : Ran (calls n) (first h₀) (stands g) f.moment = subst (λ (l : List (Done (calls n))). Ran (calls n) (first h₀) l f.moment) e (never_was n s.fresh f.ran) in
    let same : g.moment ≡ f.moment = one_end (calls n) (never_was n s.fresh g.ran) last in
    world_bytes f.here.block g.here.block (sym g.here.world ∙ ap (world_from n) same ∙ f.here.world)
