-- `hex_bytes` meets its contract. So far i pairs were read, and their bytes stand at the front.
use mathlib.Core.Path.{ap, ◌∙◌}
use Rattle.std.specs.Prelude.{ok_or}
use Rattle.script.specs.declared.Fault.TheVariants as fault
use Rattle.script.proofs.Paired.{read_all, read_full, read_more, read_none, read_none_here, read_odd}
use Rattle.script.proofs.Said.{refused}
use Rattle.std.specs.Result.{result_ok}
use native.Mathlib.Omega.{arith}
use Rattle.script.proofs.fills.hex_bytes.Goals as goal

pub returns-then-text-eq1 : goal.returns-then-text-eq1
returns-then-text-eq1 c = let both = read_odd _ _ c.if-text-eq1.true in record { answer = both.0; out = both.1 }

pub returns-then-out-n : goal.returns-then-out-n
returns-then-out-n c = let both = read_full _ _ c.if-text-eq1.false c.if-out-n.true in record { answer = both.0; out = both.1 }

pub loop-i-init : goal.loop-i-init
loop-i-init c = read_none _ _

pub returns-in_err-out : goal.returns-in_err-out
returns-in_err-out c =
    let l = c.loop-i in
    let k = c.in_err-out.ensures in
    let both = read_none_here c.args.text.now c.args.out.now l.out l.i l.invariant c.if-text-eq1.false c.if-out-n.false _ c.loop-i-test.true c.pair.ensures k.ok_part in
    record { answer = refused _ _ c.from_residual.ensures.1 ∙ k.value ∙ ap (λ o. ok_or o fault.HexWrong) k.ok_part ∙ both.0; out = both.1 }

pub loop-i-preserved : goal.loop-i-preserved
loop-i-preserved c =
    let l = c.loop-i in
    read_more c.args.text.now c.args.out.now l.out l.i l.invariant _ _ (omega arith) c.pair.ensures (c.ok_or.ensures.ok_part ∙ ap result_ok c.in_ok-out.was)

pub returns : goal.returns
returns c =
    let l = c.loop-i in
    let both = read_all c.args.text.now c.args.out.now l.out l.i l.invariant c.if-text-eq1.false c.if-out-n.false (omega arith) (omega arith) in
    record { answer = both.0; out = both.1 }
