-- `head_at` meets its contract. What is still to read, from number i on, gives the whole.
use native.Mathlib.Omega.{arith}
use mathlib.Core.Path.{◌≡◌, refl, sym, ◌∙◌}
use Prim.Native.Nat.{suc, ◌-◌, ◌+◌, ◌*◌}
use native.Mathlib.Nat.{add-zero}
use lib.ListN.{length-set, drop}
use Rattle.lists.proofs.Stores.{sets_whole}
use Rattle.entries.specs.Bytes.{head_numbers}
use Rattle.entries.proofs.Turns.{length_read, read_end_lem, read_turn}
use Rattle.entries.proofs.bytes.head_at.Goals as goal

pub loop-i-init : goal.loop-i-init
loop-i-init c =
    let h = head_numbers 31 (drop c.args.at c.args.b.now) in
    (omega arith, refl, rw (add-zero c.args.at) (sets_whole h _ (length_read 31 (drop c.args.at c.args.b.now))))

pub loop-i-preserved : goal.loop-i-preserved
loop-i-preserved c =
    let i = c.loop-i.i in
    let p : c.args.at + 4 * (i + 1) ≡ c.args.at + 4 * i + 4 = omega arith in
    let k : 31 - i ≡ suc (31 - (i + 1)) = omega arith in
    (omega arith, simp length-set c.loop-i.invariant.1, rw (c.number_at.ensures, p) (read_turn c.loop-i.x-items c.args.b.now (c.args.at + 4 * i) i (31 - (i + 1)) ∙ rw (← k) c.loop-i.invariant.2))

pub returns : goal.returns
returns c = sym (read_end_lem c.loop-i.x-items (drop (c.args.at + 4 * c.loop-i.i) c.args.b.now) c.loop-i.i (31 - c.loop-i.i) (omega arith)) ∙ c.loop-i.invariant.2
