-- `unit_check` meets its contract: each test is one of the definition, the last by the law of whole blocks.
use borrow.Author.Tests.{eq-eqb, ne_eqb}
use Rattle.state.specs.Checks.{refusal_of}
use Rattle.state.proofs.Tests.{whole_blocks}
use Rattle.state.proofs.check.unit_check.Goals as goal

pub returns-then-state_wrong : goal.returns-then-state_wrong
unfolding refusal_of
returns-then-state_wrong c = rw (← c.state_wrong.ensures, c.if-state_wrong.true)

pub returns-then-memory-u : goal.returns-then-memory-u
unfolding refusal_of
returns-then-memory-u c = rw (← c.state_wrong.ensures, c.if-state_wrong.false, ne_eqb _ _ c.if-memory-u.true)

pub returns-then-not-whole : goal.returns-then-not-whole
unfolding refusal_of
returns-then-not-whole c = rw (← c.state_wrong.ensures, c.if-state_wrong.false, eq-eqb _ _ c.if-memory-u.false, ← whole_blocks c.args.reel c.args.u.lengths.blocks, c.if-not-whole.true)

pub returns : goal.returns
unfolding refusal_of
returns c = rw (← c.state_wrong.ensures, c.if-state_wrong.false, eq-eqb _ _ c.if-memory-u.false, ← whole_blocks c.args.reel c.args.u.lengths.blocks, c.if-not-whole.false)
