use Rattle.limits.proofs.Testing.{fine_allowed}
use Rattle.putting.proofs.Putting.{tests_refuse, tests_pass}
use Rattle.putting.proofs.tested_store.Goals as goal

pub returns-in-Err : goal.returns-in-Err
returns-in-Err c = tests_refuse c.check_put.ensures c.in-Err.is c.requires

pub store-requires-clause-value_value : goal.store-requires-clause-value_value
store-requires-clause-value_value c = fine_allowed c.check_put.ensures c.in_default.is

pub returns : goal.returns
returns c = tests_pass c.check_put.ensures c.in_default.is c.store.ensures
