use Rattle.batch.proofs.Batching.{journalled_done, journalled_failed}
use Rattle.batch.proofs.journal_all.Goals as goal

pub returns-in-Ok : goal.returns-in-Ok
returns-in-Ok g c = journalled_done _ c.go_over.ensures c.in-Ok.is c.commit.ensures

pub returns-in-Err : goal.returns-in-Err
returns-in-Err g c = journalled_failed _ c.go_over.ensures c.in-Err.is c.refused.ensures
