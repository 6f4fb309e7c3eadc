use Rattle.putting.proofs.Putting.{ready_done, ready_again}
use Rattle.gate.proofs.Saying.{as_reply}
use Rattle.putting.proofs.put_ready.Goals as goal

pub returns-in-Ok : goal.returns-in-Ok
returns-in-Ok c = as_reply c.reply.ensures (ready_done _ _ _ c.tested_store.ensures c.in-Ok.is)

pub returns-in-Err : goal.returns-in-Err
returns-in-Err c = ready_again _ _ _ c.tested_store.ensures c.in-Err.is c.put_again.ensures
