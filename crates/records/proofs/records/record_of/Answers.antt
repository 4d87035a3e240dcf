-- `record_of` meets its contract: the state's numbers, and the two behind them.
use mathlib.Core.Path.{◌≡◌, refl, ◌∙◌}
use mathlib.Core.List.{[], ◌∷◌}
use Rattle.entries.specs.Numbers.{state_numbers}
use Rattle.entries.proofs.Halves.{halves}
use Rattle.worlds.specs.Rows.{unit_over}
use Rattle.records.specs.Records.{numbers_of}
use Rattle.records.proofs.records.record_of.Goals as goal

pub returns : goal.returns
unfolding numbers_of state_numbers
returns c =
    let alike : state_numbers c.session_over.result.unit ≡ state_numbers (unit_over 0 c.args.t) = rw c.session_over.ensures in
    halves 19 2 _ _ _ _ _ c.copy_from_slice.ensures.len refl refl (c.copy_from_slice.ensures.after ∙ c.state_numbers.ensures ∙ alike)
    (c.copy_from_slice-2.ensures.after ∙ (λ i. c.low.ensures i ∷ c.low-2.ensures i ∷ []))
