-- `numbers_of` is its definition: the state's numbers, and the others one by one.
use mathlib.Core.Path.{refl, ◌∙◌}
use mathlib.Core.List.{[], ◌∷◌}
use Rattle.entries.specs.Numbers.{numbers_of}
use Rattle.entries.proofs.Halves.{bit, halves}
use Rattle.entries.proofs.numbers.numbers_of.Goals as goal

pub returns : goal.returns
unfolding numbers_of
returns c =
    halves 19 12 _ _ _ _ _ c.copy_from_slice.ensures.len refl refl (c.copy_from_slice.ensures.after ∙ c.state_numbers.ensures)
    (c.copy_from_slice-2.ensures.after ∙ (λ i.
    c.low.ensures i ∷ c.low-2.ensures i ∷ c.low-3.ensures i ∷ c.low-4.ensures i ∷ (c.from.ensures ∙ bit c.args.e.touched.swb) i
    ∷ c.low-5.ensures i ∷ c.low-6.ensures i ∷ c.low-7.ensures i ∷ c.low-8.ensures i
    ∷ c.low-9.ensures i ∷ c.args.e.touched.places ∷ c.low-10.ensures i ∷ []))
