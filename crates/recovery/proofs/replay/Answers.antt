use Rattle.std.proofs.lemmas.Result.{err_from_is_err_and}
use Rattle.std.proofs.Common.{refl}
use Rattle.recovery.proofs.Replaying.{replay_start, replay_on, replay_failed, replay_end}
use Rattle.recovery.proofs.replay.Goals as goal

pub loop-index-init : goal.loop-index-init
loop-index-init c = (refl, replay_start _ c.requires)

pub returns-in_err-step : goal.returns-in_err-step
returns-in_err-step c = let p = err_from_is_err_and c.from_residual.result c.from_residual.ensures.1 in rw (p.1, p.2) (replay_failed _ c.loop-index.index c.loop-index.invariant.1 c.loop-index-test.true c.redo.ensures c.in_err-step.was)

pub loop-index-preserved : goal.loop-index-preserved
loop-index-preserved c = (cc, replay_on _ c.loop-index.index c.loop-index.invariant.1 c.loop-index-test.true c.redo.ensures c.in_ok-step.was)

pub returns : goal.returns
returns c = replay_end _ c.loop-index.index c.loop-index.invariant.1 c.loop-index.auto.index-end c.loop-index-test.false c.marker_key.ensures c.remove.ensures
