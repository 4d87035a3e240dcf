-- `place_in` meets its contract. None of the first k words is w, and what is left stands behind them.
use Prim.Native.Nat.{◌-◌}
use mathlib.Core.Path.{◌≡◌}
use lib.ListN.{length, drop}
use Rattle.script.specs.Words.{over, place_from, place_of}
use Rattle.script.proofs.words.place_in.Given as goal

abbrev pub invariant-loop-k : goal.invariant-loop-k
invariant-loop-k l = record {
  none : place_of l.list l.w ≡ place_from l.list l.w l.k (length l.list - l.k);
  behind : l.rest ≡ drop (over l.list l.k) l.list;
}
