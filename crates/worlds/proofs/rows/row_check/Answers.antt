-- `row_check` is its definition.
use borrow.Author.Tests.{eq-eqb, ne_eqb}
use Rattle.worlds.specs.Rows.{row_checked}
use Rattle.worlds.proofs.rows.row_check.Goals as goal

pub returns-then-coupler_wrong-states_wrong : goal.returns-then-coupler_wrong-states_wrong
unfolding row_checked
returns-then-coupler_wrong-states_wrong c = rw (← c.coupler_wrong.ensures, ← c.states_wrong.ensures, c.if-coupler_wrong-states_wrong.true)

pub returns-then-memory-c : goal.returns-then-memory-c
unfolding row_checked
returns-then-memory-c c = rw (← c.coupler_wrong.ensures, ← c.states_wrong.ensures, c.if-coupler_wrong-states_wrong.false, ne_eqb c.args.memory c.args.c.memory c.if-memory-c.true)

pub returns-then-reels_wrong : goal.returns-then-reels_wrong
unfolding row_checked
returns-then-reels_wrong c = rw (← c.coupler_wrong.ensures, ← c.states_wrong.ensures, c.if-coupler_wrong-states_wrong.false, eq-eqb c.args.memory c.args.c.memory c.if-memory-c.false, ← c.reels_wrong.ensures, c.if-reels_wrong.true)

pub returns-then-journal-c : goal.returns-then-journal-c
unfolding row_checked
returns-then-journal-c c = rw (← c.coupler_wrong.ensures, ← c.states_wrong.ensures, c.if-coupler_wrong-states_wrong.false, eq-eqb c.args.memory c.args.c.memory c.if-memory-c.false, ← c.reels_wrong.ensures, c.if-reels_wrong.false, ne_eqb c.args.journal c.args.c.journal c.if-journal-c.true)

pub returns : goal.returns
unfolding row_checked
returns c = rw (← c.coupler_wrong.ensures, ← c.states_wrong.ensures, c.if-coupler_wrong-states_wrong.false, eq-eqb c.args.memory c.args.c.memory c.if-memory-c.false, ← c.reels_wrong.ensures, c.if-reels_wrong.false, eq-eqb c.args.journal c.args.c.journal c.if-journal-c.false)
