-- `put_objects` meets its contract. What the turns that are left put makes the lines whole.
use Prim.Native.Nat.{◌-◌}
use Rattle.lister.proofs.Putting.{Left}
use Rattle.lister.proofs.prints.put_objects.Given as goal

abbrev pub invariant-loop : goal.invariant-loop
invariant-loop l = Left l.initial.out l.image l.e l.out l.at l.p (l.e - l.counter)
