use Rattle.journal.proofs.Committing.{finish_done, finish_failed}
use Rattle.journal.proofs.finish.Goals as goal

pub returns-in-Ok : goal.returns-in-Ok
returns-in-Ok c = finish_done c.recover.ensures c.in-Ok.is c.reply.ensures

pub returns-in-Err : goal.returns-in-Err
returns-in-Err c = finish_failed c.recover.ensures c.in-Err.is c.settled.ensures c.reply-in-Err.ensures
