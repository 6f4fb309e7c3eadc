use Rattle.std.proofs.lemmas.Result.{err_from_is_err_and}
use Rattle.finding.proofs.Finding.{delete_missed, delete_no, delete_failed, delete_done}
use Rattle.finding.proofs.delete_key.Goals as goal

pub returns-in_err-fetched : goal.returns-in_err-fetched
returns-in_err-fetched c = let p = err_from_is_err_and c.from_residual.result c.from_residual.ensures.1 in rw (p.1, p.2) (delete_missed _ c.requires c.fetch.ensures c.in_err-fetched.was)

pub returns-then-is_none : goal.returns-then-is_none
returns-then-is_none c = delete_no _ c.requires c.fetch.ensures c.in_ok-fetched.was c.is_none.ensures c.if-is_none.true

pub returns-in_err-gone : goal.returns-in_err-gone
returns-in_err-gone c = let p = err_from_is_err_and c.from_residual-in_err-gone.result c.from_residual-in_err-gone.ensures.1 in rw (p.1, p.2) (delete_failed _ c.requires c.fetch.ensures c.in_ok-fetched.was c.is_none.ensures c.if-is_none.false c.remove.ensures c.in_err-gone.was)

pub returns : goal.returns
returns c = delete_done _ c.requires c.fetch.ensures c.in_ok-fetched.was c.is_none.ensures c.if-is_none.false c.remove.ensures c.in_ok-gone.was
