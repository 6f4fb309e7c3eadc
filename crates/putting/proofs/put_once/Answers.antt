use Rattle.putting.proofs.Putting.{once_done, once_failed}
use Rattle.gate.proofs.Saying.{as_reply}
use Rattle.putting.proofs.put_once.Goals as goal

pub returns-in-Ok : goal.returns-in-Ok
returns-in-Ok c = as_reply c.reply.ensures (once_done _ _ _ c.tested_store.ensures c.in-Ok.is)

pub returns-in-Err : goal.returns-in-Err
returns-in-Err c = as_reply c.refused.ensures (once_failed _ _ _ c.tested_store.ensures c.in-Err.is)
