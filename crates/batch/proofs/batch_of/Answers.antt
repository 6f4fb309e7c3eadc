use Rattle.batch.proofs.Batching.{batch_refused, batch_passed}
use Rattle.batch.proofs.batch_of.Goals as goal

pub returns-in-Ok : goal.returns-in-Ok
returns-in-Ok g c = batch_passed _ _ c.requires.passes c.in-Ok.is c.batch.ensures

pub returns-in-Err : goal.returns-in-Err
returns-in-Err g c = batch_refused _ _ c.requires.passes c.in-Err.is c.requires.region_value c.reply.ensures
