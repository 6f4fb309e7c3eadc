use Rattle.std.proofs.lemmas.Result.{err_from_is_err_and}
use Rattle.std.proofs.Common.{subst, arith}
use Rattle.marks.specs.Forms.{Short}
use Rattle.recovery.proofs.Recovering.{unread_failed, unread_on, count_refused, count_on}
use Rattle.recovery.proofs.recover_by.Goals as goal

pub returns-in_err-next : goal.returns-in_err-next
returns-in_err-next c = let p = err_from_is_err_and c.from_residual.result c.from_residual.ensures.1 in rw (p.1, p.2) (unread_failed c.in_default.is c.discard.ensures c.in_err-next.was)

pub returns-in_default : goal.returns-in_default
returns-in_default c = unread_on c.in_default.is c.discard.ensures c.in_ok-next.was c.marker_key.ensures c.remove.ensures

pub returns-then-too_many : goal.returns-then-too_many
returns-then-too_many c = count_refused c.in-Some.is c.too_many.ensures c.if-too_many.true c.requires.region_value

pub overflow_cast-count : goal.overflow_cast-count
overflow_cast-count c = let k = subst Short c.in-Some.is c.requires.short in omega (arith, k)

pub returns : goal.returns
returns c = count_on c.in-Some.is c.too_many.ensures c.if-too_many.false c.replay.ensures
