use lib.ListN.{length-replicate}
use Rattle.std.proofs.Common.{ℕ}
use Rattle.recovery.proofs.Entries.{copy_is}
use Rattle.recovery.proofs.copied.Goals as goal

pub returns-clause-front : goal.returns-clause-front
returns-clause-front g c = copy_is _ _ _ c.requires (length-replicate {A = ℕ} _ 0) c.copy_in.ensures
