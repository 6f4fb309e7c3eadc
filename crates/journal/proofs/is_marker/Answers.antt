use Rattle.journal.proofs.Committing.{no_marker, some_marker}
use Rattle.journal.proofs.is_marker.Goals as goal

pub returns-in-Some : goal.returns-in-Some
returns-in-Some c = some_marker _ c.in-Some.is c.encode_marker.ensures c.same.ensures

pub returns-in-None : goal.returns-in-None
returns-in-None c = no_marker _ c.in-None.is
