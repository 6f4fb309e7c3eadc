use Rattle.journal.proofs.Committing.{marker_allowed, marker_stored}
use Rattle.journal.proofs.write_marker.Goals as goal

pub store-requires-clause-value_value : goal.store-requires-clause-value_value
store-requires-clause-value_value c = marker_allowed _ c.marker_key.ensures c.encode_marker-marker.ensures

pub returns : goal.returns
returns c = marker_stored _ c.marker_key.ensures c.encode_marker-marker.ensures c.store.ensures
