-- What the calls hand on to a step is what was asked: a change of the state, a host store, an advance.
use mathlib.Core.Path.{◌≡◌, refl, sym, subst, ◌∙◌}
use mathlib.Core.Bool.{Bool, true, false}
use mathlib.Core.List.{List}
use Prim.Native.Nat.{ℕ}
use lib.ListN.{length}
use Rattle.state.specs.declared.Unit.{Unit}
use Rattle.std.specs.Prelude.{Ok, Err}
use Rattle.state.specs.declared.refusal.Refusal.TheVariants as refusal
use Rattle.commands.specs.Ends.{still}
use Rattle.commands.specs.Answers.{Answer}
use Rattle.commands.specs.declared.plans.Done.TheVariants as answer
use Rattle.commands.specs.declared.plans.Plan.{Plan}
use Rattle.advance.specs.Steps.{advanced}
use Rattle.unit.specs.Asks.{advance}
use Rattle.unit.specs.Cores.{Core}
use Rattle.unit.specs.Steps.{carried, changed, step_of, store_wrong, stored}
use Rattle.worlds.specs.Worlds.{Leaves, answered, world_of}
use Rattle.worlds.specs.Calls.{outcome, taken_as, taken_by}
use Rattle.worlds.specs.declared.Session.{Session}
use Rattle.worlds.specs.Worlds.{Outcome}
use Rattle.steps.proofs.Outs.{answer_rests, answer_takes}
use Rattle.steps.proofs.Entered.{store_answer}

module _ (number : ℕ) (s : Session) (m r tb j : List ℕ) where
  abbrev core : Core
  core = (world_of number s m r tb j).core

  pub change_takes : (v u : Unit) (o : Outcome) (m' r' tb' j' : List ℕ) → v ≡ u → Leaves (taken_as (world_of number s m r tb j) (carried core (changed v)) (Ok (answer.Step false))) j o m' r' tb' j' → Leaves (taken_by (world_of number s m r tb j) (carried core (changed u)) (carried core (changed u)).answer) j o m' r' tb' j'
  unfolding taken_by carried still
  change_takes v u o m' r' tb' j' e h =
      subst (λ (x : Unit). Leaves (taken_as (world_of number s m r tb j) (carried core (changed x)) (Ok (answer.Step false))) j o m' r' tb' j') e h

  -- tested by t for refusal 5
  module _ (place : ℕ) (bytes : List ℕ) (t : Bool) (dt : t ≡ store_wrong (length m) place (length bytes)) (o : Outcome) where
    refused_answer : t ≡ true → (stored core place bytes).answer ≡ Err refusal.Store
    unfolding stored
    refused_answer h = rw (← dt, h)

    pub store_stops : t ≡ true → o.answer ≡ Err refusal.Store → o.session ≡ s → Leaves (taken_by (world_of number s m r tb j) (stored core place bytes) (stored core place bytes).answer) j o m r tb j
    unfolding taken_by
    store_stops h k l = answer_rests number s m r tb j (stored core place bytes) (Err refusal.Store) o (refused_answer h) refl k l

    pub store_takes : (m' r' tb' j' : List ℕ) → t ≡ false → Leaves (taken_as (world_of number s m r tb j) (stored core place bytes) (Ok (answer.Step false))) j o m' r' tb' j' → Leaves (taken_by (world_of number s m r tb j) (stored core place bytes) (stored core place bytes).answer) j o m' r' tb' j'
    store_takes m' r' tb' j' h k = answer_takes number s m r tb j (stored core place bytes) false o m' r' tb' j' (store_answer core place bytes (sym dt ∙ h)) k

  -- by the plan's answer
  module _ (p : Plan) (dp : p ≡ advanced s.unit m r) where
    pub advance_takes : (i : Bool) (o : Outcome) (m' r' tb' j' : List ℕ) → p.answer ≡ Ok (answer.Step i) → Leaves (taken_as (world_of number s m r tb j) (carried core p) (Ok (answer.Step i))) j o m' r' tb' j' → Leaves (taken_by (world_of number s m r tb j) (step_of advance core) (step_of advance core).answer) j o m' r' tb' j'
    unfolding step_of carried
    advance_takes i o m' r' tb' j' t h =
        rw (← dp)
        (answer_takes number s m r tb j (carried core p) i o m' r' tb' j' t h)

    pub advance_rests : (a : Answer) → p.answer ≡ a → taken_by (world_of number s m r tb j) (carried core p) a ≡ answered a (world_of number s m r tb j) → Leaves (taken_by (world_of number s m r tb j) (step_of advance core) (step_of advance core).answer) j (outcome a s) m r tb j
    unfolding step_of carried
    advance_rests a t q = rw (← dp) (answer_rests number s m r tb j (carried core p) a (outcome a s) t q refl refl)
