-- `put_message` meets its contract. So far the first i words are in memory.
use Rattle.std.proofs.Common.{◌≡◌, length, take}
use lib.Seq.{sets}
use Rattle.signals.specs.Message.{words_bytes}
use Rattle.signals.proofs.message.put_message.Given as goal

abbrev pub invariant-loop-i : goal.invariant-loop-i
invariant-loop-i l = (l.mem ≡ sets l.initial.mem l.a (words_bytes (take l.i l.w-items))) × (length l.mem ≡ length l.initial.mem)
