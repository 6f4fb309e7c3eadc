use Rattle.batch.proofs.Batching.{commit_done, commit_failed}
use Rattle.batch.proofs.commit.Goals as goal

pub returns-in-Ok : goal.returns-in-Ok
returns-in-Ok g c = commit_done _ c.requires.count_value c.write_marker.ensures c.in-Ok.is c.apply_all.ensures

pub returns-in-Err : goal.returns-in-Err
returns-in-Err g c = commit_failed _ c.requires.count_value c.write_marker.ensures c.in-Err.is c.read_back.ensures
