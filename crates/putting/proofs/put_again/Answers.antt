use Rattle.putting.proofs.Putting.{again_not, again_unready, again_on}
use Rattle.gate.proofs.Saying.{as_reply}
use Rattle.putting.proofs.put_again.Goals as goal

pub returns-then-not-retries : goal.returns-then-not-retries
returns-then-not-retries c = as_reply c.refused.ensures (again_not _ _ _ _ c.retries.ensures c.if-not-retries.true c.requires)

pub returns-in-Ok : goal.returns-in-Ok
returns-in-Ok c = again_on _ _ _ _ c.retries.ensures c.if-not-retries.false c.converge.ensures c.in-Ok.is c.put_once.ensures

pub returns-in-Err : goal.returns-in-Err
returns-in-Err c = as_reply c.refused-in-Err.ensures (again_unready _ _ _ _ c.retries.ensures c.if-not-retries.false c.converge.ensures c.in-Err.is)
