use Rattle.std.proofs.lemmas.Result.{err_from_is_err_and}
use Rattle.std.proofs.Common.{rules}
use Rattle.recovery.proofs.Sweeping.{iterating_start, not_opened, opened, iterate_failed, iterate_over, iterate_met, iterate_on}
use Rattle.recovery.proofs.iterate_all.Goals as goal

pub loop-met-init : goal.loop-met-init
loop-met-init c = (search rules, iterating_start c.requires)

pub returns-in_err-step : goal.returns-in_err-step
returns-in_err-step c = let p = err_from_is_err_and c.from_residual.result c.from_residual.ensures.1 in rw (p.1, p.2) (not_opened c.iterate_open.ensures c.in_err-step.was)

pub returns-in_err-met : goal.returns-in_err-met
returns-in_err-met c = let p = err_from_is_err_and c.from_residual-in_err-met.result c.from_residual-in_err-met.ensures.1 in rw (p.1, p.2) (opened c.iterate_open.ensures c.in_ok-step.was (iterate_failed c.loop-met.at c.loop-met.invariant.1 c.iterate_next.ensures c.in_err-met.was))

pub returns-in_default : goal.returns-in_default
returns-in_default c = opened c.iterate_open.ensures c.in_ok-step.was (iterate_over c.loop-met.at c.loop-met.invariant.1 c.iterate_next.ensures c.in_ok-met.was c.in_default.is)

pub end-at-requires : goal.end-at-requires
end-at-requires c = let m = iterate_met c.loop-met.at c.loop-met.invariant.1 c.iterate_next.ensures c.in_ok-met.was c.in-Some.is in search rules

pub loop-met-smaller : goal.loop-met-smaller
loop-met-smaller c =
    let m = iterate_met c.loop-met.at c.loop-met.invariant.1 c.iterate_next.ensures c.in_ok-met.was c.in-Some.is in
    let e = c.end-at.ensures in
    search rules

pub loop-met-preserved : goal.loop-met-preserved
loop-met-preserved c =
    let m = iterate_met c.loop-met.at c.loop-met.invariant.1 c.iterate_next.ensures c.in_ok-met.was c.in-Some.is in
    rw c.end-at.ensures (m.inside, iterate_on c.loop-met.at c.loop-met.invariant.1 c.iterate_next.ensures c.in_ok-met.was c.in-Some.is)
