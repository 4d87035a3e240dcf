-- What a call tells: its answer, the session after it, and beside them an entry's length or a register's word.
use Rattle.std.specs.Prelude.{List, ℕ, ◌-◌}
use Rattle.lines.specs.declared.Ask.{Ask}
use Rattle.lines.specs.declared.Ask.TheVariants as ask
use Rattle.lines.specs.declared.Call.{Call}
use Rattle.lines.specs.declared.Call.TheVariants as call
use Rattle.results.specs.declared.Also.{Also}
use Rattle.results.specs.declared.Also.TheVariants as also
use Rattle.results.specs.declared.Told.{Told}
use Rattle.unit.specs.declared.registers.Register.{Register}
use Rattle.unit.specs.declared.registers.Register.TheVariants as register
use Rattle.worlds.specs.Worlds.{session_of}
use Rattle.worlds.specs.Calls.{outcome, register_on}
use Rattle.worlds.specs.declared.Session.{Session}
use Rattle.worlds.specs.Worlds.{Outcome}
use Rattle.replayer.specs.Calls.{call_on}

abbrev pub told_as : Outcome → Also → Told
told_as o a = record { answer = o.answer; also = a; session = o.session }

-- a step tells its entry's length n, and an advance with it that it says whether it interrupts
unfoldable pub step_also : Ask → ℕ → Also
step_also (ask.WriteTsdb w) n = also.Entry n
step_also ask.WriteTssr n = also.Entry n
step_also (ask.Operate a) n = also.Entry n
step_also (ask.HostStore at) n = also.Entry n
step_also ask.Advance n = also.Interrupt n

-- the entry's length is by how much the used journal is longer
unfoldable pub step_told : Session → Ask → Outcome → Told
step_told s a o = told_as o (step_also a (o.session.used - s.used))

unfoldable pub read_told : Session → Register → Told
read_told s r = told_as (outcome (register_on s r).answer s) (also.Word (register_on s r).word)

-- what the call c from the session s tells where its outcome is o
unfoldable pub told_by : Session → Call → Outcome → Told
told_by s (call.Mount e online locked) o = told_as o also.Nothing
told_by s call.ReadTsba o = read_told s register.Tsba
told_by s call.ReadTssr o = read_told s register.Tssr
told_by s (call.Step a) o = step_told s a o
told_by s call.StepBack o = told_as o also.Nothing

unfoldable pub told_on : Call → List ℕ → Session → List ℕ → List ℕ → List ℕ → List ℕ → Told
told_on c b s m r tb j = told_by s c (outcome (call_on c b s m r tb j).answer (session_of (call_on c b s m r tb j).world))
