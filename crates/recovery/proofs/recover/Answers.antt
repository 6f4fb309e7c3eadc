use Rattle.std.proofs.lemmas.Result.{err_from_is_err_and}
use Rattle.recovery.proofs.Recovering.{recover_missed, recover_none, recover_some}
use Rattle.recovery.proofs.recover.Goals as goal

pub returns-in_err-fetched : goal.returns-in_err-fetched
returns-in_err-fetched c = let p = err_from_is_err_and c.from_residual.result c.from_residual.ensures.1 in rw (p.1, p.2) (recover_missed c.marker_key.ensures c.requires c.fetch.ensures c.in_err-fetched.was)

pub returns-in_default : goal.returns-in_default
returns-in_default c = recover_none c.marker_key.ensures c.requires c.fetch.ensures c.in_ok-fetched.was c.in_default.is c.discard.ensures

pub recover_by-requires-clause-short : goal.recover_by-requires-clause-short
recover_by-requires-clause-short c = c.decode_marker-marker.ensures.short

pub returns : goal.returns
returns c = recover_some c.marker_key.ensures c.requires c.fetch.ensures c.in_ok-fetched.was c.in-Some.is c.decode_marker-marker.ensures c.recover_by.ensures
