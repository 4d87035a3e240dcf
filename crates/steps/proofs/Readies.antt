-- Where the checks let pass, what a step touches lies inside memory and reel, and what an advance planned can be carried out.
use mathlib.Core.Path.{◌≡◌, sym, subst, ◌∙◌}
use mathlib.Core.Bool.{Bool, false}
use mathlib.Core.List.{List}
use Prim.Native.Nat.{ℕ, ◌+◌, ◌*◌, ◌≤◌}
use native.Mathlib.Omega.{arith}
use borrow.Author.Tests.{ltb-false}
use lib.Dec.{ltb}
use lib.ListN.{length}
use Rattle.state.proofs.Tests.{neither}
use Rattle.index.specs.Table.{place_length, places_limit}
use Rattle.index.specs.declared.Cut.{Cut}
use Rattle.motions.specs.declared.parts.Laid.{Laid}
use Rattle.std.specs.Prelude.{Ok}
use Rattle.commands.specs.declared.plans.Plan.{Plan}
use Rattle.storing.specs.Stored.{Storable}
use Rattle.advance.specs.Steps.{advanced}
use Rattle.touched.specs.Touches.{PlacesIn, Sizes, TouchedIn, place_below}
use Rattle.touched.proofs.Fits.{places_inside}
use Rattle.touched.specs.declared.Touched.{Touched}
use Rattle.unit.specs.Steps.{cut_for, host_limit, store_wrong, too_small}
use Rattle.unit.specs.Touching.{host_touched, laid_places, touched_by}
use Rattle.unit.proofs.Rows.{Enough, cut_fewer, cut_filled, cut_low, enough_after, enough_before}
use Rattle.unit.proofs.Stepping.{advanced_fits}
use Rattle.unit.proofs.Touches.{host_in, plan_in}
use Rattle.worlds.specs.Refusals.{checked}
use Rattle.worlds.specs.Worlds.{world_of}
use Rattle.worlds.specs.declared.Session.{Session}
use Rattle.worlds.proofs.Passing.{core_accepted, passed, sizes}
use Rattle.steps.specs.Readiness.{CutReady, HostReady, Ready, Unrefused}

module _ (s : Session) (m r : List ℕ) (journal : ℕ) (k : Unrefused s (length m) (length r) journal) where
  pub sound_sizes : Sizes (length m) (length r)
  sound_sizes = sizes (world_of 0 s m r m m) journal (passed s (length m) (length r) journal k.right)

  pub step_in : (p : Plan) (k : ℕ) (t : Touched) → t ≡ touched_by p k → Storable p (length m) (length r) → TouchedIn t (length m) (length r)
  step_in p k t h f = subst (λ (x : Touched). TouchedIn x (length m) (length r)) (sym h) (plan_in p m r f k sound_sizes)

  pub store_in : (place : ℕ) (bytes : List ℕ) (t : Touched) → t ≡ host_touched place (length bytes) → place + length bytes ≤ length m → TouchedIn t (length m) (length r)
  store_in place bytes t h i =
      subst (λ (x : Touched). TouchedIn x (length m) (length r)) (sym h) (host_in m r place bytes sound_sizes i)

pub advance_ready : (s : Session) (p : Plan) (m r : List ℕ) (journal : ℕ) → checked s (length m) (length r) journal ≡ Ok tt → p ≡ advanced s.unit m r → Ready s p (length m) (length r) journal
advance_ready s p m r journal right q =
    let a = core_accepted (world_of 0 s m r m m) journal (passed s (length m) (length r) journal right) in
    record {
      sound = record { right = right };
      storable = subst (λ (x : Plan). Storable x (length m) (length r)) (sym q) (advanced_fits (world_of 0 s m r m m).core a);
    }

pub host_ready : (s : Session) (memory reel journal place n : ℕ) (t : Bool) → checked s memory reel journal ≡ Ok tt → t ≡ store_wrong memory place n → t ≡ false → HostReady s memory reel journal place n
unfolding store_wrong
host_ready s memory reel journal place n t e dt h =
    let q = neither (ltb host_limit n) (ltb memory (place + n)) (sym dt ∙ h) in
    record {
      sound = record { right = e };
      short = ltb-false host_limit n q.0;
      inside = ltb-false memory (place + n) q.1;
    }

pub cut_counted : (l : Laid) (tb : List ℕ) (n : ℕ) (r : List ℕ) (x : Cut) → x ≡ cut_for l tb n r → too_small (length tb) n n ≡ false → x.place ≤ places_limit
cut_counted l tb n r x e h =
    let low : x.place ≤ n = rw e (cut_low l tb n r) in
    omega (arith, (enough_before (length tb) n n h).few)

-- the places that a step fills lie inside the table
module _ (s : Session) (p : Plan) (c : Cut) (top : ℕ) (r tb : List ℕ) (memory journal : ℕ) (h : CutReady s p c top r tb memory journal) where
  pub top_room : Enough (length tb) top
  top_room = enough_after (length tb) s.objects top h.large

  pub fills : place_length * (c.place + laid_places p.laid) ≤ length tb
  unfolding touched_by
  fills =
      let filled : c.place ≡ place_below top (laid_places p.laid) = rw (h.after, h.cut) (cut_filled p.laid tb s.objects r) in
      let fewer : laid_places p.laid ≤ top = rw (h.after, h.cut) (cut_fewer p.laid tb s.objects r) in
      places_inside (touched_by p c.place) top (length tb) filled fewer top_room.room

  pub filled_in : (t : Touched) → t ≡ touched_by p c.place → PlacesIn t (length tb)
  unfolding touched_by
  filled_in t e = rw e fills
