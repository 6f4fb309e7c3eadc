use Rattle.std.proofs.lemmas.Result.{err_from_is_err_and}
use Rattle.finding.proofs.Finding.{get_missed, get_absent, get_small, get_found}
use Rattle.finding.proofs.get_key.Goals as goal

pub returns-in_err-fetched : goal.returns-in_err-fetched
returns-in_err-fetched c = let p = err_from_is_err_and c.from_residual.result c.from_residual.ensures.1 in rw (p.1, p.2) (get_missed _ _ c.requires c.fetch.ensures c.in_err-fetched.was)

pub returns-in_default : goal.returns-in_default
returns-in_default c = get_absent _ _ c.requires c.fetch.ensures c.in_ok-fetched.was c.in_default.is

pub returns-then-out-value : goal.returns-then-out-value
returns-then-out-value c = get_small _ _ c.requires c.fetch.ensures c.in_ok-fetched.was c.in-Some.is c.if-out-value.true

pub returns : goal.returns
returns c = get_found _ _ c.requires c.fetch.ensures c.in_ok-fetched.was c.in-Some.is c.if-out-value.false c.copy_in.ensures
