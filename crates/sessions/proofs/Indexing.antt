-- Every step for which the table is large enough keeps it the table worked out afresh: only an advance that lays changes reel, recorded end, table or count,
-- and it lays at a bound.
use mathlib.Core.Path.{◌≡◌, refl, sym, ap, subst}
use mathlib.Core.Bool.{false}
use mathlib.Core.List.{List, ◌++◌}
use mathlib.Core.Logic.{⊎_elim}
use Prim.Native.Nat.{ℕ, ◌+◌, ◌≤◌}
use native.Mathlib.Omega.{arith}
use borrow.Author.Tests.{ne_eqb}
use lib.Dec.{eqb}
use lib.ListN.{length}
use Rattle.tape.specs.Numbers.{capacity_limit}
use Rattle.tape.specs.Objects.{Holds, Object, blocks_of}
use Rattle.index.specs.Cutting.{cut_at, extended}
use Rattle.index.specs.Table.{Indexed, marks_of, table_from}
use Rattle.index.specs.declared.Cut.{Cut}
use Rattle.index.proofs.Cuts.{cut_extended, cut_is, worked}
use Rattle.state.specs.Changes.{initialized, operated, tsdb_written}
use Rattle.state.specs.declared.Unit.{Unit}
use Rattle.state.proofs.Tests.{either}
use Rattle.motions.specs.Parts.{no_lay}
use Rattle.commands.specs.Ends.{still}
use Rattle.commands.specs.declared.plans.Plan.{Plan}
use Rattle.storing.specs.Stored.{laid_object, laid_objects, reel_after}
use Rattle.advance.specs.Steps.{advanced}
use Rattle.kept.proofs.Leaving.{lays_or_stays}
use Rattle.kept.proofs.Standing.{unlaid}
use Rattle.kept.proofs.Unwritten.{Unlaid}
use Rattle.unit.specs.Asks.{Ask, advance, host_store, operate, write_tsdb, write_tssr}
use Rattle.unit.specs.Cores.{Admitted, Core}
use Rattle.unit.specs.Steps.{Step, carried, changed, cut_for, cut_of, objects_after, step_of, store_wrong, stored, table_after}
use Rattle.unit.specs.Touching.{laid_places, object_places}
use Rattle.unit.proofs.Rows.{enough_after, places_laid}
use Rattle.worlds.specs.Calls.{absent_place}
use Rattle.sessions.specs.Good.{CoreFormed, CoreIndexed}
use Rattle.sessions.proofs.Keeping.{operated_tape}

module _ (c : Core) where
  table_unlaid : table_after c no_lay ≡ c.table
  unfolding table_after extended laid_objects laid_object table_from
  table_unlaid = refl

  objects_unlaid : (k : Cut) → objects_after no_lay k c.objects ≡ c.objects
  unfolding objects_after laid_places object_places
  objects_unlaid k = refl

  -- a plan that lays nothing and keeps the recorded end
  unlaid_indexed : CoreIndexed c → (p : Plan) → Unlaid c.unit.tape.end p → CoreIndexed (carried c p).after
  unfolding carried reel_after
  unlaid_indexed x p y = rw (y.0, y.1, unlaid c.reel c.memory, table_unlaid, objects_unlaid (cut_of c no_lay)) x

  change_indexed : CoreIndexed c → (u : Unit) → u.tape.end ≡ c.unit.tape.end → CoreIndexed (carried c (changed u)).after
  unfolding still
  change_indexed x u e = unlaid_indexed x (changed u) (refl, e)

  tsdb_end : (word : ℕ) → (tsdb_written c.unit word).tape.end ≡ c.unit.tape.end
  unfolding tsdb_written
  tsdb_end word = refl

  tssr_end : (initialized c.unit).tape.end ≡ c.unit.tape.end
  unfolding initialized
  tssr_end = refl

  store_indexed : CoreIndexed c → (place : ℕ) (bytes : List ℕ) → CoreIndexed (stored c place bytes).after
  unfolding stored
  store_indexed x place bytes = either (λ (y : Step). CoreIndexed y.after) (store_wrong (length c.memory) place (length bytes)) _ _ x x

-- a plan that lays objects at the bound behind `before` cuts the table there, and fills a place for each of them
module _ (c : Core) (p : Plan) (before after : List Object) (h : Holds c.reel c.unit.tape.end (before ++ after)) (at : p.laid.at ≡ blocks_of before)
    (some : 1 ≤ length (laid_objects c.memory p.laid)) (x : CoreIndexed c) (low : c.unit.tape.end ≤ capacity_limit) where
  abbrev new : List Object
  new = laid_objects c.memory p.laid

  some_place : eqb (laid_places p.laid) 0 ≡ false
  some_place = ne_eqb (laid_places p.laid) 0 (λ z. omega (arith, places_laid c.memory p.laid))

  cut_here : cut_of c p.laid ≡ cut_at c.table c.objects c.reel (blocks_of before)
  unfolding cut_for
  cut_here = rw (some_place, at)

  cut_place : cut_at c.table c.objects c.reel (blocks_of before) ≡ record { place = length before; marks = marks_of before }
  cut_place = cut_is before after h (worked x h) low

  objects_here : (carried c p).after.objects ≡ length before + length new
  unfolding carried objects_after
  objects_here = rw (some_place, cut_here, cut_place, ← places_laid c.memory p.laid)

  laid_indexed : Holds (reel_after p c.memory c.reel) p.unit.tape.end (before ++ new) → absent_place c (carried c p) ≡ false → CoreIndexed (carried c p).after
  unfolding carried table_after
  laid_indexed h' large =
      let room = (enough_after (length c.table) c.objects (carried c p).after.objects large).room in
      rw (objects_here, cut_here)
      (subst (λ (b : ℕ). Indexed (reel_after p c.memory c.reel) p.unit.tape.end (extended c.table (cut_at c.table c.objects c.reel (blocks_of before)) b new) (length before + length new)) (sym at)
      (cut_extended before after new x h h' low (omega (arith, objects_here, room))))

pub indexing : (c : Core) → CoreFormed c → CoreIndexed c → Admitted c → (k : Ask) → absent_place c (step_of k c) ≡ false → CoreIndexed (step_of k c).after
unfolding step_of
indexing c f x a (write_tsdb word) large = change_indexed c x (tsdb_written c.unit word) (tsdb_end c word)
indexing c f x a write_tssr large = change_indexed c x (initialized c.unit) (tssr_end c)
indexing c f x a (operate b) large = change_indexed c x (operated c.unit b) (ap (λ t. t.end) (operated_tape c f b))
indexing c f x a (host_store place bytes) large = store_indexed c x place bytes
indexing c f x a advance large =
    let p : Plan = advanced c.unit c.memory c.reel in
    ⊎_elim
    (λ y. laid_indexed c p y.at.before y.at.after (rw y.at.whole at f.1) (sym y.at.place) y.some x (omega (arith, a.legal.capacity, a.legal.blocks_most)) y.holds large)
    (λ y. unlaid_indexed c x p y)
    (lays_or_stays c.unit c.memory c.reel a.reel_is f.1 f.2)
