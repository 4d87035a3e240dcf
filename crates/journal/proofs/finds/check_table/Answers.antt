-- `check_table` is its definition.
use Rattle.worlds.specs.Calls.{find_refusal}
use borrow.Author.Tests.{le-ltb, lt-ltb}
use Rattle.journal.proofs.finds.check_table.Goals as goal

pub returns-then-session_wrong : goal.returns-then-session_wrong
unfolding find_refusal
returns-then-session_wrong c = rw (← c.session_wrong.ensures, c.if-session_wrong.true)

pub returns-then-places-s : goal.returns-then-places-s
unfolding find_refusal
returns-then-places-s c = rw (← c.session_wrong.ensures, c.if-session_wrong.false, ← c.places.ensures, lt-ltb _ _ c.if-places-s.true)

pub returns : goal.returns
unfolding find_refusal
returns c = rw (← c.session_wrong.ensures, c.if-session_wrong.false, ← c.places.ensures, le-ltb _ _ c.if-places-s.false)
