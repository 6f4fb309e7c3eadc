use Rattle.std.proofs.lemmas.Result.{err_from_is_err_and}
use Rattle.std.proofs.Common.{arith, rules}
use Rattle.windows.proofs.Windows.{sane_empty, empty_holds}
use Rattle.scan.proofs.Passing.{met_held, open_failed, opened, passing_start, passing_failed, passing_over, passing_met, passing_overlong, passing_less, passing_on}
use Rattle.scan.proofs.pass.Goals as goal

pub returns-in_err-step : goal.returns-in_err-step
returns-in_err-step c = let p = err_from_is_err_and c.from_residual.result c.from_residual.ensures.1 in rw (p.1, p.2) (open_failed _ _ _ c.iterate_open.ensures c.in_err-step.was)

pub loop-met-init : goal.loop-met-init
loop-met-init c = passing_start _ _ _ _ c.requires.region_value (sane_empty _ c.new-window.ensures.0 c.new-window.ensures.1) (empty_holds _ _ c.new-window.ensures.1)

pub returns-in_err-met : goal.returns-in_err-met
returns-in_err-met c = let p = err_from_is_err_and c.from_residual-in_err-met.result c.from_residual-in_err-met.ensures.1 in rw (p.1, p.2) (opened _ _ _ c.iterate_open.ensures c.in_ok-step.was tt (passing_failed _ _ _ c.loop-met.invariant c.iterate_next.ensures c.in_err-met.was))

pub returns-in_default : goal.returns-in_default
returns-in_default c = opened _ _ _ c.iterate_open.ensures c.in_ok-step.was c.loop-met.invariant.sane (passing_over _ _ _ c.loop-met.invariant c.iterate_next.ensures c.in_ok-met.was c.in_default.is)

pub overlong-requires : goal.overlong-requires
overlong-requires c = met_held (passing_met _ _ _ c.loop-met.invariant c.iterate_next.ensures c.in_ok-met.was c.in-Some.is)

pub returns-in-Err : goal.returns-in-Err
returns-in-Err c = opened _ _ _ c.iterate_open.ensures c.in_ok-step.was tt (passing_overlong _ _ _ c.loop-met.invariant c.iterate_next.ensures c.in_ok-met.was c.in-Some.is c.overlong.ensures c.in-Err.is)

pub keep-window-requires : goal.keep-window-requires
keep-window-requires c = record { last_held = c.requires.last_held; sane = c.loop-met.invariant.sane; held = met_held (passing_met _ _ _ c.loop-met.invariant c.iterate_next.ensures c.in_ok-met.was c.in-Some.is) }

pub end-at-requires : goal.end-at-requires
end-at-requires c = let m = passing_met _ _ _ c.loop-met.invariant c.iterate_next.ensures c.in_ok-met.was c.in-Some.is in search rules

pub loop-met-smaller : goal.loop-met-smaller
loop-met-smaller c = let l = passing_less _ _ _ c.loop-met.invariant c.iterate_next.ensures c.in_ok-met.was c.in-Some.is c.end-at.ensures in omega (arith, l.0, l.1)

pub loop-met-preserved : goal.loop-met-preserved
loop-met-preserved c = passing_on _ _ _ c.loop-met.invariant c.iterate_next.ensures c.in_ok-met.was c.in-Some.is c.end-at.ensures c.overlong.ensures c.in_default-overlong.is c.keep-window.ensures
