use Rattle.std.proofs.Common.{◌∙◌}
use Rattle.definition.specs.Public.{apply_ops}
use Rattle.gate.proofs.Saying.{unchanged_outcome}
use Rattle.batch.proofs.Batching.{call_bad, call_good}
use Rattle.operations.proofs.apply_ops.Goals as goal

pub returns-then-not-is_good : goal.returns-then-not-is_good
unfolding apply_ops
returns-then-not-is_good c = unchanged_outcome c.unchanged.ensures ∙ call_bad _ _ _ _ c.is_good.ensures c.if-not-is_good.true

pub returns : goal.returns
unfolding apply_ops
returns c = call_good _ _ _ _ c.is_good.ensures c.if-not-is_good.false c.begin.ensures c.batch_of.ensures
