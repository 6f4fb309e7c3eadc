use Rattle.std.proofs.lemmas.Result.{err_from_is_err_and}
use Rattle.finding.proofs.Finding.{contains_missed, contains_told}
use Rattle.finding.proofs.contains_key.Goals as goal

pub returns-in_err-fetched : goal.returns-in_err-fetched
returns-in_err-fetched c = let p = err_from_is_err_and c.from_residual.result c.from_residual.ensures.1 in rw (p.1, p.2) (contains_missed _ c.requires c.fetch.ensures c.in_err-fetched.was)

pub returns : goal.returns
returns c = rw c.is_some.ensures (contains_told _ c.requires c.fetch.ensures c.in_ok-fetched.was)
