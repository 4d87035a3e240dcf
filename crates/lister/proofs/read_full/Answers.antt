-- `read_full` meets its contract: what it has got is what the reader gave, up to the buffer's or the reader's end.
use Rattle.std.proofs.Common.{rules, arith, sym, subst}
use Rattle.std.specs.Io.KnownBytes.{Consumes}
use Rattle.lister.proofs.Reading.{put_taken, taken_both}
use Rattle.lister.proofs.read_full.Goals as goal

pub loop-got-preserved : goal.loop-got-preserved
loop-got-preserved g c = record {
  same = search rules;
  within = search rules;
  given = subst (Consumes _ _) (sym (put_taken c.loop-got.got _ c.in_ok-n.n c.loop-got.buffer c.read.new.buf (omega arith) c.in_ok-n.ensures.bound.0)) (taken_both _ _ _ _ _ c.loop-got.invariant.given c.in_ok-n.ensures.bytes.0);
}
