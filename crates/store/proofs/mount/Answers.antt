use Rattle.std.proofs.Common.{sym, ◌∙◌}
use Rattle.store.proofs.Mounting.{mount_refused, mount_bad, mount_failed, mount_done}
use Rattle.gate.proofs.Saying.{unchanged_outcome, reply_outcome}
use Rattle.store.proofs.mount.Goals as goal

pub returns-in-Err : goal.returns-in-Err
returns-in-Err c = unchanged_outcome c.unchanged.ensures ∙ mount_refused _ _ _ _ c.space.ensures c.check_region.ensures c.in-Err.is

pub returns-then-not-is_good : goal.returns-then-not-is_good
returns-then-not-is_good c = unchanged_outcome c.unchanged-then-not-is_good.ensures ∙ mount_bad _ _ _ _ c.space.ensures c.check_region.ensures c.in_default.is c.is_good.ensures c.if-not-is_good.true

pub recover-requires : goal.recover-requires
recover-requires c = sym c.is_good.ensures ∙ c.if-not-is_good.false

pub returns-in-Err-recover : goal.returns-in-Err-recover
returns-in-Err-recover c = reply_outcome c.refused.ensures ∙ mount_failed _ _ _ _ c.space.ensures c.check_region.ensures c.in_default.is c.is_good.ensures c.if-not-is_good.false c.begin.ensures c.recover.ensures c.in-Err-recover.is

pub returns-in-Ok : goal.returns-in-Ok
returns-in-Ok c = reply_outcome c.reply.ensures ∙ mount_done _ _ _ _ c.space.ensures c.check_region.ensures c.in_default.is c.is_good.ensures c.if-not-is_good.false c.begin.ensures c.recover.ensures c.in-Ok.is
