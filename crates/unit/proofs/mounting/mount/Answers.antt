-- `mount` meets its contract: a refusal or a bad block, or a whole reel, which gives the new state.
use mathlib.Core.Path.{refl}
use Rattle.std.proofs.lemmas.Result.{err_from_is_err_and}
use Rattle.unit.specs.Mounts.{mount_call_under, mount_left_under, mount_swept, swept_left}
use Rattle.unit.proofs.mounting.mount.Goals as goal

pub returns-in_err-mount_refusal-clause-is : goal.returns-in_err-mount_refusal-clause-is
unfolding mount_call_under
returns-in_err-mount_refusal-clause-is c = let p = err_from_is_err_and c.from_residual.result c.from_residual.ensures.1 in rw (p.1, p.2, ← c.in_err-mount_refusal.ensures)

pub returns-in_err-mount_refusal-clause-left : goal.returns-in_err-mount_refusal-clause-left
unfolding mount_left_under
returns-in_err-mount_refusal-clause-left c =
    let p = err_from_is_err_and c.from_residual.result c.from_residual.ensures.1 in rw (p.1, ← c.in_err-mount_refusal.ensures) (λ old. refl)

pub returns-in-Err-clause-is : goal.returns-in-Err-clause-is
unfolding mount_call_under mount_swept
returns-in-Err-clause-is c = rw (← c.in_ok-mount_refusal.ensures, ← c.sweep.ensures, c.in-Err.is)

pub returns-in-Err-clause-left : goal.returns-in-Err-clause-left
unfolding mount_left_under swept_left
returns-in-Err-clause-left c = rw (← c.in_ok-mount_refusal.ensures, ← c.sweep.ensures, c.in-Err.is) (λ old. refl)

pub returns-in-Ok-clause-is : goal.returns-in-Ok-clause-is
unfolding mount_call_under mount_swept
returns-in-Ok-clause-is c = rw (← c.in_ok-mount_refusal.ensures, ← c.sweep.ensures, c.in-Ok.is, ← c.mounted.ensures)

pub returns-in-Ok-clause-left : goal.returns-in-Ok-clause-left
unfolding mount_left_under swept_left
returns-in-Ok-clause-left c = rw (← c.in_ok-mount_refusal.ensures, ← c.sweep.ensures, c.in-Ok.is, ← c.mounted.ensures) (λ old. refl)
