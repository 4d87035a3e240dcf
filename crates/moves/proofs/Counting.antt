-- What a count says: of what and how many, and the same behind a record.
use mathlib.Core.Bool.{Bool, true, false}
use mathlib.Core.Path.{◌≡◌, refl, ap}
use Prim.Native.Nat.{ℕ, ◌+◌, ◌-◌}
use native.Mathlib.Omega.{arith}
use Rattle.lists.specs.Pick.{pick}
use Rattle.signals.specs.declared.counts.MarkCount.{MarkCount}
use Rattle.signals.specs.declared.counts.RecordCount.{RecordCount}
use Rattle.moves.specs.Counting.{after_record, count_of, how_many, of_marks}
use Rattle.moves.specs.declared.spacing.Count.{Count}
use Rattle.moves.specs.declared.spacing.Count.TheVariants as count-as

pub kind_asked : (marks : Bool) (n : ℕ) → of_marks (count_of marks n) ≡ marks
kind_asked true n = refl
kind_asked false n = refl

pub number_asked : (marks : Bool) (n : ℕ) → how_many (count_of marks n) ≡ n
number_asked true n = refl
number_asked false n = refl

pub record_kind : (c : Count) → of_marks (after_record c) ≡ of_marks c
record_kind (count-as.Records n) = refl
record_kind (count-as.Marks n) = refl

-- one record less, or as many marks
pub record_number : (c : Count) → (how_many c ≡ 0 → ⊥) → pick (of_marks c) 0 1 + how_many (after_record c) ≡ how_many c
record_number (count-as.Records n) some = omega arith
record_number (count-as.Marks n) some = omega arith

-- a mark is none of the records that are left, and one of the marks
pub mark_stops_number : {c : Count} (n : RecordCount) → c ≡ count-as.Records n → pick (of_marks c) 1 0 + n.0 ≡ how_many c
mark_stops_number n e = rw e (omega arith)

pub mark_number : {c : Count} (n : MarkCount) → c ≡ count-as.Marks n → (how_many c ≡ 0 → ⊥) → pick (of_marks c) 1 0 + (n.0 - 1) ≡ how_many c
mark_number n e some = omega (arith, ap how_many e, ap (λ c. pick {A = ℕ} (of_marks c) 1 0) e)
