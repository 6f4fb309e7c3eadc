use Rattle.items.proofs.Laws.{step_ran}
use Rattle.items.proofs.iterate_open.Goals as goal

pub returns : goal.returns
returns c = step_ran _ _ _ c.read.ensures c.requires
