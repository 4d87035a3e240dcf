-- `read_full` ends: each turn that goes on got a byte or more. What the buffer has got is what the reader gave.
use Rattle.std.proofs.Common.{length, ◌-◌, ◌≡◌, ◌≤◌, take}
use Rattle.std.specs.Io.KnownBytes.{Consumes}
use Rattle.lister.proofs.read_full.Given as goal

abbrev pub invariant-loop-got : goal.invariant-loop-got
invariant-loop-got g l = record {
  same : length l.buffer ≡ length l.initial.buffer;
  within : l.got ≤ length l.buffer;
  given : Consumes (g.R.Read.remaining l.initial.from) (g.R.Read.remaining l.from) (take l.got l.buffer);
}

abbrev pub decreases-loop-got : goal.decreases-loop-got
decreases-loop-got g l = length l.initial.buffer - l.got
