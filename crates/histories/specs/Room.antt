-- When a step over the row is refused for places or for room. (01, the table of refusals; 02, [8] and [9])
use Rattle.std.specs.Prelude.{Ok, Err}
use Rattle.std.specs.Prelude.{Bool, false, ◌≡◌, length}
use Rattle.state.specs.declared.refusal.Refusal.TheVariants as refusal
use Rattle.commands.specs.declared.plans.Done.TheVariants as answer
use Rattle.unit.specs.Asks.{host_store}
use Rattle.unit.specs.Steps.{step_of}
use Rattle.worlds.specs.Coupled.{Coupled, CoupledAnswer, Rig, core_of, core_of_none, refused_with}
use Rattle.worlds.specs.Rows.{absent_in}
use Rattle.sessions.specs.Good.{NoPlace, NoRoom}
use Rattle.histories.specs.Calling.{Call, core_for, doing, entry_at, read_register, step, store}

-- a call of a transport that is present and whose step 7 doesn't refuse and is no idle advance; or a host store that 5 doesn't refuse
abbrev pub Steppable : Call → Rig → Type 0
Steppable (step k a h) g = (absent_in (length g.decks) k ≡ false) × ((i : Bool) × ((step_of a (core_of k g)).answer ≡ Ok (answer.Step i)))
Steppable (store place bytes) g = (i : Bool) × ((step_of (host_store place bytes) (core_of_none g)).answer ≡ Ok (answer.Step i))
Steppable (read_register k r) g = ⊥

-- "a step is refused for room exactly when its entry doesn't fit", and then all is as it was; 11 comes before 9, and is given exactly when the transport's table is too small
pub record Exactly (w : Coupled) (c : Call) (x : CoupledAnswer) : Type 0 where
  pub nine : x.answer ≡ Err refusal.Room → NoRoom w.ledger (entry_at c w.rig)
  pub no_room : (NoPlace (core_for c w.rig) (doing c w.rig) → ⊥) → NoRoom w.ledger (entry_at c w.rig) → x ≡ refused_with refusal.Room w
  pub eleven : x.answer ≡ Err refusal.Table → NoPlace (core_for c w.rig) (doing c w.rig)
  pub no_place : NoPlace (core_for c w.rig) (doing c w.rig) → x ≡ refused_with refusal.Table w
