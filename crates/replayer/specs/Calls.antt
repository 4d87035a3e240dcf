-- A call that a line makes, with the bytes b that the line gives, as a function of all that it is handed: its answer, and the world after it.
use Rattle.std.specs.Prelude.{Bool, false, List, ℕ, length}
use Rattle.tape.specs.Afresh.{objects_in}
use Rattle.commands.specs.Answers.{is_step}
use Rattle.commands.specs.Answers.{Answer}
use Rattle.lines.specs.declared.Call.{Call}
use Rattle.lines.specs.declared.Call.TheVariants as call
use Rattle.unit.specs.declared.registers.Register.TheVariants as register
use Rattle.worlds.specs.Worlds.{Answered, answered, world_of}
use Rattle.worlds.specs.Calls.{back_on, mount_on, register_on, step_on, table_mounted}
use Rattle.worlds.specs.declared.Session.{Session}
use Rattle.worlds.specs.Worlds.{Outcome}
use Rattle.replayer.specs.Asks.{ask_of}

-- what a mount with this outcome leaves: the table filled, if it is accepted, and every other byte
abbrev pub mounted : Outcome → ℕ → List ℕ → List ℕ → List ℕ → List ℕ → Answered
mounted o e m r tb j = answered o.answer (world_of 0 o.session m r (table_mounted tb (objects_in r e) o.answer) j)

unfoldable pub call_on : Call → List ℕ → Session → List ℕ → List ℕ → List ℕ → List ℕ → Answered
call_on (call.Mount e online locked) b s m r tb j = mounted (mount_on s (length m) r (length tb) (length j) e online locked) e m r tb j
call_on call.ReadTsba b s m r tb j = answered (register_on s register.Tsba).answer (world_of 0 s m r tb j)
call_on call.ReadTssr b s m r tb j = answered (register_on s register.Tssr).answer (world_of 0 s m r tb j)
call_on (call.Step a) b s m r tb j = step_on (world_of 0 s m r tb j) (length j) (ask_of a b)
call_on call.StepBack b s m r tb j = back_on (world_of 0 s m r tb j) (length j)

-- whether a call with this answer has put an entry into the journal
unfoldable pub entered : Call → Answer → Bool
entered (call.Mount e online locked) a = false
entered call.ReadTsba a = false
entered call.ReadTssr a = false
entered (call.Step k) a = is_step a
entered call.StepBack a = false
