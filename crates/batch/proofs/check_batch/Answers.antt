use Rattle.std.proofs.Common.{arith}
use Rattle.batch.proofs.Walking.{check_few}
use Rattle.batch.proofs.check_batch.Goals as goal

pub returns : goal.returns
returns g c = check_few _ c.requires.count_value (omega arith) c.check_all.ensures
