use Rattle.std.proofs.lemmas.Result.{err_from_is_err_and}
use Rattle.recovery.proofs.Sweeping.{discard_failed, discard_on}
use Rattle.recovery.proofs.discard.Goals as goal

pub returns-in_err-next : goal.returns-in_err-next
returns-in_err-next c = let p = err_from_is_err_and c.from_residual.result c.from_residual.ensures.1 in rw (p.1, p.2) (discard_failed c.iterate_all.ensures c.in_err-next.was)

pub returns : goal.returns
returns c = discard_on c.iterate_all.ensures c.in_ok-next.was c.drop_each.ensures
