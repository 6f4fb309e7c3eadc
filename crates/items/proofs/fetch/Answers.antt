use Rattle.std.proofs.lemmas.Result.{err_from_is_err_and}
use Rattle.items.proofs.Laws.{fetch_got, fetch_missed}
use Rattle.items.proofs.fetch.Goals as goal

pub returns-in_err-next : goal.returns-in_err-next
returns-in_err-next c = let p = err_from_is_err_and c.from_residual.result c.from_residual.ensures.1 in rw (p.1, p.2) (fetch_missed _ _ _ c.read.ensures _ c.in_err-next.was)

pub returns : goal.returns
returns c = fetch_got _ _ _ c.read.ensures _ c.in_ok-next.was c.fetch.ensures.value c.fetch.ensures.short
