-- `wrong_in` meets its contract: a law for each fault that can be the first, given the tests that were passed before it.
use mathlib.Core.Path.{sym, ◌∙◌}
use Rattle.block.proofs.Classes.{fault_check, fault_index, fault_kind, fault_length, fault_padding}
use Rattle.block.proofs.Heads.{head_whole}
use Rattle.block.proofs.read.wrong_in.Goals as goal

pub returns-then-not-kind_right : goal.returns-then-not-kind_right
returns-then-not-kind_right c = fault_kind _ _ _ _ c.of-head.ensures.kind c.of-head.ensures.length c.of-head.ensures.index (sym c.kind_right.ensures ∙ c.if-not-kind_right.true)

pub returns-then-not-length_right : goal.returns-then-not-length_right
returns-then-not-length_right c = fault_length _ _ _ _ c.of-head.ensures.kind c.of-head.ensures.length c.of-head.ensures.index (sym c.kind_right.ensures ∙ c.if-not-kind_right.false) (sym c.length_right.ensures ∙ c.if-not-length_right.true)

pub returns-then-not-index_right : goal.returns-then-not-index_right
returns-then-not-index_right c = fault_index _ _ _ _ c.of-head.ensures.kind c.of-head.ensures.length c.of-head.ensures.index (sym c.kind_right.ensures ∙ c.if-not-kind_right.false) (sym c.length_right.ensures ∙ c.if-not-length_right.false) (sym c.index_right.ensures ∙ c.if-not-index_right.true)

pub used-requires : goal.used-requires
used-requires c = head_whole _ _ _ (sym c.kind_right.ensures ∙ c.if-not-kind_right.false) (sym c.length_right.ensures ∙ c.if-not-length_right.false) (sym c.index_right.ensures ∙ c.if-not-index_right.false)

pub returns-then-not-padding_right : goal.returns-then-not-padding_right
returns-then-not-padding_right c = fault_padding _ _ _ _ c.of-head.ensures.kind c.of-head.ensures.length c.of-head.ensures.index (sym c.kind_right.ensures ∙ c.if-not-kind_right.false) (sym c.length_right.ensures ∙ c.if-not-length_right.false) (sym c.index_right.ensures ∙ c.if-not-index_right.false) c.used.ensures.is (sym c.padding_right.ensures ∙ c.if-not-padding_right.true)

pub returns : goal.returns
returns c = fault_check _ _ _ _ c.of-head.ensures.kind c.of-head.ensures.length c.of-head.ensures.index (sym c.kind_right.ensures ∙ c.if-not-kind_right.false) (sym c.length_right.ensures ∙ c.if-not-length_right.false) (sym c.index_right.ensures ∙ c.if-not-index_right.false) c.used.ensures.is (sym c.padding_right.ensures ∙ c.if-not-padding_right.false)
