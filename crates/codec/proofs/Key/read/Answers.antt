use Rattle.codec.proofs.Laws.{key_whole}
use Rattle.codec.proofs.Key.read.Goals as goal

pub returns : goal.returns
returns c = key_whole _ _ c.in_ok-taken.ensures c.pad.ensures
