-- `span` meets its contract: what is left stands behind the words passed so far.
use native.Mathlib.Omega.{arith}
use borrow.Author.Rules.{rules}
use borrow.Author.Tests.{tests}
use Rattle.script.proofs.Passing.{over_more, over_none, span_is, span_none}
use Rattle.script.proofs.words.span.Goals as goal

pub loop-init : goal.loop-init
loop-init c = over_none _

pub loop-preserved : goal.loop-preserved
loop-preserved c = over_more _ _ _ _ c.loop.invariant c.beyond-rest.ensures

pub returns-clause-start : goal.returns-clause-start
returns-clause-start c = (span_is c.args.text.now c.args.k c.loop.counter _ _ _ (omega arith) c.loop.invariant c.from_word-word.ensures c.pass.ensures.is).0

pub returns-clause-end : goal.returns-clause-end
returns-clause-end c = (span_is c.args.text.now c.args.k c.loop.counter _ _ _ (omega arith) c.loop.invariant c.from_word-word.ensures c.pass.ensures.is).1

pub returns-then-is_empty-clause-start : goal.returns-then-is_empty-clause-start
returns-then-is_empty-clause-start c = (span_none c.args.text.now c.loop.rest.now c.loop.counter c.args.k c.loop-test.true c.loop.invariant (search (rules, tests))).0

pub returns-then-is_empty-clause-end : goal.returns-then-is_empty-clause-end
returns-then-is_empty-clause-end c = (span_none c.args.text.now c.loop.rest.now c.loop.counter c.args.k c.loop-test.true c.loop.invariant (search (rules, tests))).1
