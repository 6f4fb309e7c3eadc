use Rattle.journal.proofs.Committing.{back_uncertain, back_committed, back_other}
use Rattle.journal.proofs.read_back.Goals as goal

pub returns-in-Err : goal.returns-in-Err
returns-in-Err c = back_uncertain _ _ c.marker_key.ensures c.requires c.fetch.ensures c.in-Err.is c.reply.ensures

pub returns-then-is_marker : goal.returns-then-is_marker
returns-then-is_marker c = back_committed _ _ c.marker_key.ensures c.requires c.fetch.ensures c.in-Ok.is c.is_marker.ensures c.if-is_marker.true c.finish.ensures

pub returns : goal.returns
returns c = back_other _ _ c.marker_key.ensures c.requires c.fetch.ensures c.in-Ok.is c.is_marker.ensures c.if-is_marker.false c.reply-2.ensures
