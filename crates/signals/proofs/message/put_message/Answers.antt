-- `put_message` meets its contract. So far the first i words are in memory.
use Rattle.std.proofs.Common.{◌≡◌, length, arith, rules}
use lib.Seq.{take-length}
use Rattle.signals.specs.Message.{messaged, words_bytes}
use Rattle.signals.proofs.Messages.{word_more}
use Rattle.signals.proofs.message.put_message.Goals as goal

pub loop-i-init : goal.loop-i-init
unfolding words_bytes
loop-i-init c = search rules

pub loop-i-preserved : goal.loop-i-preserved
loop-i-preserved c = (
  cc (word_more c.args.mem.now c.args.m c.args.a c.loop-i.i (omega arith)),
  search rules,
)

pub returns : goal.returns
unfolding messaged
returns c =
    let e : c.loop-i.i ≡ length c.args.m = omega arith in
    cc (take-length c.args.m)
