-- Every step keeps to what it touches, from a core that refusals 1 to 3 let pass.
use mathlib.Core.Path.{◌≡◌, refl}
use mathlib.Core.Bool.{Bool, true, false, ◌||◌}
use mathlib.Core.List.{List}
use Prim.Native.Nat.{ℕ, ◌+◌}
use native.Mathlib.Omega.{arith}
use borrow.Author.Tests.{ltb-false}
use lib.Dec.{ltb}
use lib.ListN.{length}
use Rattle.lists.proofs.Cases.{pick_told}
use Rattle.state.specs.Changes.{initialized, operated, switched_line, switched_lock, tsdb_written}
use Rattle.state.specs.Legal.{Legal}
use Rattle.state.specs.declared.Unit.{Unit}
use Rattle.state.specs.declared.act.Act.{Act}
use Rattle.state.specs.declared.act.Act.TheVariants as act
use Rattle.state.proofs.Legal.{legal_initialized, legal_operated, legal_tsdb}
use Rattle.state.proofs.Tests.{either, neither}
use Rattle.std.specs.Prelude.{Ok}
use Rattle.commands.specs.Ends.{still}
use Rattle.commands.specs.declared.plans.Done.TheVariants as answer
use Rattle.commands.specs.declared.plans.Plan.{Plan}
use Rattle.storing.specs.Stored.{Storable}
use Rattle.advance.specs.Steps.{advanced}
use Rattle.advance.proofs.Planned.{advanced_seven, advanced_sound}
use Rattle.touched.specs.Touches.{Sizes, TouchedIn, none}
use Rattle.unit.specs.Asks.{Ask, Asked, advance, host_store, operate, write_tsdb, write_tssr}
use Rattle.unit.specs.Cores.{Admitted, Core}
use Rattle.unit.specs.Steps.{Sound, carried, changed, cut_of, host_limit, step_of, store_wrong, stored, table_after}
use Rattle.unit.specs.Touching.{host_touched, touched_by}
use Rattle.unit.proofs.Rows.{cut_fewer, cut_filled}
use Rattle.unit.proofs.Storing.{advanced_storable}
use Rattle.unit.proofs.Touches.{host_in, host_only, plan_in, plan_only, still_storable}

-- the mount's lengths stay
tsdb_lengths : (u : Unit) (word : ℕ) → (tsdb_written u word).lengths ≡ u.lengths
unfolding tsdb_written
tsdb_lengths u word = refl

initialized_lengths : (u : Unit) → (initialized u).lengths ≡ u.lengths
unfolding initialized
initialized_lengths u = refl

operated_lengths : (u : Unit) (a : Act) → (operated u a).lengths ≡ u.lengths
unfolding operated switched_line switched_lock
operated_lengths u act.OnLine = either (λ (v : Unit). v.lengths ≡ u.lengths) u.panel.online u (switched_line u true) refl refl
operated_lengths u act.OffLine = either (λ (v : Unit). v.lengths ≡ u.lengths) u.panel.online (switched_line u false) u refl refl
operated_lengths u act.Lock = refl
operated_lengths u act.Unlock = refl

pub core_sizes : (c : Core) → Admitted c → Sizes (length c.memory) (length c.reel)
core_sizes c a =
    record {
      even = rw a.memory_is a.legal.even;
      even_reel = omega (arith, a.reel_is);
      memory_small = omega (arith, a.memory_is, a.legal.memory_most);
      reel_small = omega (arith, a.reel_is, a.legal.blocks_most);
    }

module _ (c : Core) (a : Admitted c) where
  pub plan_sound : (p : Plan) → Storable p (length c.memory) (length c.reel) → length p.message ≡ 7 → Legal p.unit → p.unit.lengths ≡ c.unit.lengths → Sound c (carried c p)
  unfolding carried touched_by table_after
  plan_sound p fits seven l e =
      let cut = cut_of c p.laid in
      record {
        only = plan_only p c.memory c.reel fits c.table cut seven;
        within = plan_in p c.memory c.reel fits cut.place (core_sizes c a);
        legal = l;
        lengths = e;
        filled = cut_filled p.laid c.table c.objects c.reel;
        fewer = cut_fewer p.laid c.table c.objects c.reel;
      }

  pub still_seven : (u : Unit) → length (changed u).message ≡ 7
  unfolding still
  still_seven u = refl

  still_unit : (u : Unit) → (changed u).unit ≡ u
  unfolding still
  still_unit u = refl

  change_sound : (u : Unit) → Legal u → u.lengths ≡ c.unit.lengths → Sound c (carried c (changed u))
  change_sound u l e =
      plan_sound (changed u) (still_storable u (Ok (answer.Step false)) (length c.memory) (length c.reel) (core_sizes c a).even) (still_seven u) (rw (still_unit u) l) (rw (still_unit u) e)

  none_in : TouchedIn none (length c.memory) (length c.reel)
  none_in = record { in_memory = omega arith; message_in_memory = omega arith; in_reel = omega arith; sizes = core_sizes c a }

  store_sound : (place : ℕ) (bytes : List ℕ) → Sound c (stored c place bytes)
  unfolding stored store_wrong host_touched
  store_sound place bytes =
      let long : Bool = ltb host_limit (length bytes) in
      let far : Bool = ltb (length c.memory) (place + length bytes) in
      pick_told (Sound c) (long || far) _ _
      (λ t. record {
        only = record { long_memory = refl; long_reel = refl; long_table = refl; memory = λ j f g. refl; reel = λ j f. refl; table = λ j f. refl };
        within = none_in;
        legal = a.legal;
        lengths = refl;
        filled = refl;
        fewer = omega arith;
      })
      (λ t. record {
        only = host_only c.memory c.reel place bytes c.table;
        within = host_in c.memory c.reel place bytes (core_sizes c a) (ltb-false (length c.memory) (place + length bytes) (neither long far t).1);
        legal = a.legal;
        lengths = refl;
        filled = refl;
        fewer = omega arith;
      })

  pub advanced_fits : Storable (advanced c.unit c.memory c.reel) (length c.memory) (length c.reel)
  advanced_fits = advanced_storable c.unit c.memory c.reel a.legal a.memory_is a.reel_is

  pub sound : (k : Ask) → Asked k → Sound c (step_of k c)
  unfolding step_of
  sound (write_tsdb word) h = change_sound (tsdb_written c.unit word) (legal_tsdb c.unit word a.legal h) (tsdb_lengths c.unit word)
  sound write_tssr h = change_sound (initialized c.unit) (legal_initialized c.unit a.legal) (initialized_lengths c.unit)
  sound (operate k) h = change_sound (operated c.unit k) (legal_operated c.unit a.legal k) (operated_lengths c.unit k)
  sound (host_store place bytes) h = store_sound place bytes
  sound advance h =
      let f = advanced_sound c.unit c.memory c.reel a.legal a.memory_is in
      plan_sound (advanced c.unit c.memory c.reel) advanced_fits (advanced_seven c.unit c.memory c.reel) f.legal f.lengths
