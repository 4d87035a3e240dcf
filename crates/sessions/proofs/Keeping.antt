-- Every step keeps the reel well formed with the position at a bound.
use mathlib.Core.Path.{◌≡◌, refl}
use mathlib.Core.Bool.{true, false}
use mathlib.Core.List.{List, []}
use Prim.Native.Nat.{ℕ}
use lib.ListN.{length}
use Rattle.tape.specs.Objects.{Object, blocks_of}
use Rattle.state.specs.Changes.{initialized, operated, switched_line, switched_lock, tsdb_written}
use Rattle.state.specs.declared.Unit.{Unit}
use Rattle.state.specs.declared.act.Act.{Act}
use Rattle.state.specs.declared.act.Act.TheVariants as act
use Rattle.state.proofs.Tests.{either}
use Rattle.moves.specs.Between.{Bound}
use Rattle.motions.specs.Parts.{standing}
use Rattle.commands.specs.Ends.{still}
use Rattle.storing.specs.Stored.{reel_after}
use Rattle.kept.specs.Formed.{Formed}
use Rattle.kept.proofs.Advanced.{advanced_kept}
use Rattle.kept.proofs.Standing.{unlaid}
use Rattle.unit.specs.Asks.{Ask, advance, host_store, operate, write_tsdb, write_tssr}
use Rattle.unit.specs.Cores.{Admitted, Core}
use Rattle.unit.specs.Steps.{Step, carried, changed, step_of, store_wrong, stored}
use Rattle.sessions.specs.Good.{CoreFormed}

-- block 0 is a bound
pub first_bound : (os : List Object) → Bound os 0
unfolding blocks_of
first_bound os = record { before = []; after = os; whole = refl; place = refl }

module _ (c : Core) (f : CoreFormed c) where
  -- a change of the state alone
  still_reel : (u : Unit) → reel_after (changed u) c.memory c.reel ≡ c.reel
  unfolding still reel_after
  still_reel u = unlaid c.reel c.memory

  change_keeps : (u : Unit) → Formed c.reel u.tape → CoreFormed (carried c (changed u)).after
  unfolding carried still
  change_keeps u g = rw (still_reel u) g

  tsdb_keeps : (word : ℕ) → CoreFormed (carried c (changed (tsdb_written c.unit word))).after
  unfolding tsdb_written
  tsdb_keeps word = change_keeps (tsdb_written c.unit word) f

  tssr_keeps : CoreFormed (carried c (changed (initialized c.unit))).after
  unfolding initialized
  tssr_keeps =
      change_keeps (initialized c.unit)
      (either (λ (p : ℕ). Formed c.reel (standing p c.unit.tape.end)) c.unit.panel.online 0 c.unit.tape.position (f.0, f.1, first_bound f.0) f)

  -- an act leaves the tape alone
  pub operated_tape : (a : Act) → (operated c.unit a).tape ≡ c.unit.tape
  unfolding operated switched_line switched_lock
  operated_tape act.OnLine = either (λ (v : Unit). v.tape ≡ c.unit.tape) c.unit.panel.online c.unit (switched_line c.unit true) refl refl
  operated_tape act.OffLine = either (λ (v : Unit). v.tape ≡ c.unit.tape) c.unit.panel.online (switched_line c.unit false) c.unit refl refl
  operated_tape act.Lock = refl
  operated_tape act.Unlock = refl

  operate_keeps : (a : Act) → CoreFormed (carried c (changed (operated c.unit a))).after
  operate_keeps a = change_keeps (operated c.unit a) (rw (operated_tape a) f)

  store_keeps : (place : ℕ) (bytes : List ℕ) → CoreFormed (stored c place bytes).after
  unfolding stored
  store_keeps place bytes = either (λ (x : Step). CoreFormed x.after) (store_wrong (length c.memory) place (length bytes)) _ _ f f

  pub keeping : Admitted c → (k : Ask) → CoreFormed (step_of k c).after
  unfolding step_of carried
  keeping a (write_tsdb word) = tsdb_keeps word
  keeping a write_tssr = tssr_keeps
  keeping a (operate b) = operate_keeps b
  keeping a (host_store place bytes) = store_keeps place bytes
  keeping a advance = advanced_kept c.unit c.memory c.reel a.reel_is f.1 f.2
