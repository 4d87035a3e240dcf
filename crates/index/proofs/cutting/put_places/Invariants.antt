-- `put_places` meets its contract: what is left of the row, put from here, makes the whole.
use mathlib.Core.Path.{◌≡◌}
use Prim.Native.Nat.{◌+◌, ◌-◌, ◌*◌, ◌≤◌}
use lib.ListN.{length}
use lib.Seq.{sets}
use Rattle.index.specs.Table.{place_length, places_row}
use Rattle.index.proofs.cutting.put_places.Given as goal

abbrev pub invariant-loop-i : goal.invariant-loop-i
invariant-loop-i l = (l.i ≤ l.n)
    × (sets l.table (place_length * (l.c.place + l.i)) (places_row (l.b + l.i) l.c.marks (l.n - l.i)) ≡ sets l.initial.table (place_length * l.c.place) (places_row l.b l.c.marks l.n))
    × (length l.table ≡ length l.initial.table)
