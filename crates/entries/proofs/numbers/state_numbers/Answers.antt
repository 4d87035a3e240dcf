-- `state_numbers` is its definition, number by number.
use mathlib.Core.Path.{◌∙◌}
use mathlib.Core.List.{[], ◌∷◌}
use Rattle.entries.specs.Numbers.{state_numbers}
use Rattle.entries.proofs.Halves.{bit}
use Rattle.entries.proofs.numbers.state_numbers.Goals as goal

pub returns : goal.returns
unfolding state_numbers
returns c =
    let u = c.args.u in
    let g = u.registers in
    let p = u.panel in
    let a = u.attention in
    let k = u.characteristics in
    λ i.
    c.low.ensures i ∷ c.low-2.ensures i ∷ c.low-3.ensures i ∷ c.low-4.ensures i
    ∷ (c.from.ensures ∙ bit g.rmr) i ∷ (c.from-2.ensures ∙ bit g.nxm) i ∷ (c.from-3.ensures ∙ bit g.nba) i ∷ (c.from-4.ensures ∙ bit g.ssr) i
    ∷ (c.from-5.ensures ∙ bit p.online) i ∷ (c.from-6.ensures ∙ bit p.locked) i ∷ (c.from-7.ensures ∙ bit p.vck) i
    ∷ (c.from-8.ensures ∙ bit a.unit_owns) i ∷ (c.from-9.ensures ∙ bit a.pending) i ∷ (c.from-10.ensures ∙ bit a.release_ie) i
    ∷ k.address ∷ k.length
    ∷ (c.from-11.ensures ∙ bit k.eai) i ∷ (c.from-12.ensures ∙ bit k.ess) i ∷ (c.from-13.ensures ∙ bit k.enb) i ∷ []
