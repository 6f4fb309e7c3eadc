use Rattle.journal.proofs.Committing.{marker_removed}
use Rattle.journal.proofs.remove_marker.Goals as goal

pub returns : goal.returns
returns c = marker_removed c.marker_key.ensures c.remove.ensures
