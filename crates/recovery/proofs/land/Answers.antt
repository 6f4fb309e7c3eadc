use Rattle.std.proofs.lemmas.Result.{err_from_is_err_and}
use Rattle.recovery.proofs.Entries.{act_counted, land_failed, land_on}
use Rattle.recovery.proofs.land.Goals as goal

pub returns-in_err-next : goal.returns-in_err-next
returns-in_err-next c = let p = err_from_is_err_and c.from_residual.result c.from_residual.ensures.1 in rw (p.1, p.2) (land_failed _ _ c.act.ensures c.in_err-next.was)

pub remove-requires-clause-held_value : goal.remove-requires-clause-held_value
remove-requires-clause-held_value c = act_counted _ c.act.ensures c.in_ok-next.was

pub returns : goal.returns
returns c = land_on _ _ c.act.ensures c.in_ok-next.was c.journal_key.ensures c.remove.ensures
