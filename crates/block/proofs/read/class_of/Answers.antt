-- `class_of` meets its contract: a law for each way that the reading ends, given what was read on the way.
use mathlib.Core.Path.{sym, ◌∙◌}
use Rattle.block.proofs.Classes.{class_body, class_head, class_right}
use Rattle.block.proofs.read.class_of.Goals as goal

pub returns-then-not-right : goal.returns-then-not-right
returns-then-not-right c = class_head _ _ _ _ c.of-head.ensures.kind c.of-head.ensures.length c.of-head.ensures.index (sym c.right.ensures ∙ c.if-not-right.true) c.wrong_in.ensures

pub returns-then-not-body_right : goal.returns-then-not-body_right
returns-then-not-body_right c = class_body _ _ _ _ c.of-head.ensures.kind c.of-head.ensures.length c.of-head.ensures.index (sym c.right.ensures ∙ c.if-not-right.false) c.used.ensures.is (sym c.body_right.ensures ∙ c.if-not-body_right.true) c.wrong_in-then-not-body_right.ensures

pub returns : goal.returns
returns c = class_right _ _ _ _ c.of-head.ensures.kind c.of-head.ensures.length c.of-head.ensures.index (sym c.right.ensures ∙ c.if-not-right.false) c.used.ensures.is (sym c.body_right.ensures ∙ c.if-not-body_right.false) c.kind_of.ensures
