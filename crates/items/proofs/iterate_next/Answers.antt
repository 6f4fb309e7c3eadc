use Rattle.std.proofs.lemmas.Result.{err_from_is_err_and}
use Rattle.items.proofs.Laws.{next_met, next_unmet}
use Rattle.items.proofs.iterate_next.Goals as goal

pub returns-in_err-next : goal.returns-in_err-next
returns-in_err-next c = let p = err_from_is_err_and c.from_residual.result c.from_residual.ensures.1 in rw (p.1, p.2) (next_unmet _ _ _ c.read.ensures c.in_err-next.was)

pub returns : goal.returns
returns c = next_met _ _ _ c.read.ensures c.in_ok-next.was c.next_item.ensures
