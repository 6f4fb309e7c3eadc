use Rattle.std.proofs.lemmas.Result.{err_from_is_err_and}
use Rattle.std.proofs.Common.{sym, ◌∙◌}
use Rattle.oplist.proofs.Walks.{listed_is}
use Rattle.batch.proofs.Batching.{passes_not, passes_all}
use Rattle.batch.proofs.tested.Goals as goal

pub returns-in_err-check_batch : goal.returns-in_err-check_batch
returns-in_err-check_batch g c =
    let p = err_from_is_err_and c.from_residual.result c.from_residual.ensures.1 in
    rw (p.1, p.2) (passes_not _ (listed_is _ (sym c.shape_of.ensures ∙ c.in-Some.is)) c.check_batch.ensures c.in_err-check_batch.was)

pub returns : goal.returns
returns g c = passes_all _ (listed_is _ (sym c.shape_of.ensures ∙ c.in-Some.is)) c.check_batch.ensures c.in_ok-check_batch.was
