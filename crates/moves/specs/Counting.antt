-- "three counters the manuals keep apart, and so do we" (01, the message paragraph): a space counts records, a skip marks.
use Rattle.std.specs.Prelude.{Bool, true, false, ℕ, ◌-◌}
use Rattle.moves.specs.declared.spacing.Count.{Count}
use Rattle.moves.specs.declared.spacing.Count.TheVariants as count-as

abbrev pub records : ℕ → Count
records n = count-as.Records (record { 0 = n })

abbrev pub marks : ℕ → Count
marks n = count-as.Marks (record { 0 = n })

-- how many, of either
abbrev pub how_many : Count → ℕ
how_many (count-as.Records n) = n.0
how_many (count-as.Marks n) = n.0

-- which of the two is counted
abbrev pub of_marks : Count → Bool
of_marks (count-as.Records n) = false
of_marks (count-as.Marks n) = true

-- n of the one or the other
abbrev pub count_of : Bool → ℕ → Count
count_of true n = marks n
count_of false n = records n

-- a record is counted, unless marks are
abbrev pub after_record : Count → Count
after_record (count-as.Records n) = records (n.0 - 1)
after_record (count-as.Marks n) = count-as.Marks n
