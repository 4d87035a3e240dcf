-- The first place whose number is no less than v, found by a look at the last place and then by halving. On a table whose numbers never fall it is the
-- number of places below v (law `halved_is`); a made-up table gives what these looks come to, and so has one answer too.
use Rattle.std.specs.Prelude.{List, ℕ, zero, suc, ◌+◌, ◌-◌, ◌*◌, ◌/◌, eqb, ltb}
use Rattle.lists.specs.Fours.{number_at}
use Rattle.lists.specs.Pick.{pick}
use Rattle.index.specs.Table.{place_length}

-- which of a place's two numbers is asked, by where it stands in the place: its first block's, or the marks before it
abbrev pub of_blocks : ℕ
of_blocks = 0

abbrev pub of_marks : ℕ
of_marks = 4

abbrev pub number_in : List ℕ → ℕ → ℕ → ℕ
number_in tb field i = number_at tb (place_length * i + field)

-- among the n places from `lo` on, in at most `turns` halvings
unfoldable pub searched : ℕ → List ℕ → ℕ → ℕ → ℕ → ℕ → ℕ
searched zero tb field v lo n = lo
searched (suc turns) tb field v lo n =
    pick (eqb n 0) lo
    (pick (ltb (number_in tb field (lo + n / 2)) v) (searched turns tb field v (lo + n / 2 + 1) (n - n / 2 - 1)) (searched turns tb field v lo (n / 2)))

-- among the first n places: all of them where the last is below v, as for a write at the recorded end, which is the common one, or a block in the last
-- object; else by halving. Each halving leaves fewer, so n of them are enough
unfoldable pub halved : List ℕ → ℕ → ℕ → ℕ → ℕ
halved tb field v n = pick (eqb n 0) 0 (pick (ltb (number_in tb field (n - 1)) v) n (searched n tb field v 0 n))
