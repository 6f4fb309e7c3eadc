use Rattle.batch.proofs.Batching.{applied_done, applied_failed}
use Rattle.batch.proofs.apply_all.Goals as goal

pub returns-in-Ok : goal.returns-in-Ok
returns-in-Ok g c = applied_done _ c.go_over.ensures c.in-Ok.is c.reply.ensures

pub returns-in-Err : goal.returns-in-Err
returns-in-Err g c = applied_failed _ c.go_over.ensures c.in-Err.is c.finish.ensures
