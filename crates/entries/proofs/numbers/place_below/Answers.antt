-- `place_below` is its definition.
use borrow.Author.Tests.{ne_eqb}
use Rattle.entries.proofs.numbers.place_below.Goals as goal

pub returns-then-f-eq0 : goal.returns-then-f-eq0
returns-then-f-eq0 c = rw c.if-f-eq0.true

pub returns-else-f-eq0 : goal.returns-else-f-eq0
returns-else-f-eq0 c = rw (c.saturating_sub.ensures, ne_eqb c.args.f 0 c.if-f-eq0.false)
