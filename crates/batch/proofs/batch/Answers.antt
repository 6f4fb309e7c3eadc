use Rattle.std.proofs.Common.{rules, arith}
use Rattle.batch.proofs.Batching.{passed_tested, batch_unready, batch_ready}
use Rattle.batch.proofs.batch.Goals as goal

pub overflow_cast-count : goal.overflow_cast-count
overflow_cast-count g c = let t = passed_tested _ c.requires.passes in let e = c.requires.passes.1 in search rules

pub journal_all-requires : goal.journal_all-requires
journal_all-requires g c =
    let t = passed_tested _ c.requires.passes in
    record { region_value = c.converge.ensures.fine; tested = t; count_value = c.requires.passes.1 }

pub returns-in-Ok : goal.returns-in-Ok
returns-in-Ok g c = batch_ready _ c.requires.passes (omega arith) _ c.is_unclean.ensures c.converge.ensures c.in-Ok.is c.journal_all.ensures

pub returns-in-Err : goal.returns-in-Err
returns-in-Err g c = batch_unready _ c.requires.passes (omega arith) _ c.is_unclean.ensures c.converge.ensures c.in-Err.is c.refused.ensures
