use Rattle.std.proofs.lemmas.Result.{err_from_is_err_and}
use Rattle.std.proofs.Common.{rules, refl, ◌∙◌}
use Rattle.oplist.proofs.Walks.{step_at, step_over, walk_op, walk_over}
use Rattle.batch.proofs.Walking.{tested_op, tested_on, each_start, each_over, each_failed, each_on}
use Rattle.batch.proofs.go_over.Goals as goal

pub loop-op-init : goal.loop-op-init
loop-op-init g c =
    let e = c.into_iter-op-iterator.ensures.into_iter_gives in
    let o = c.ops-op-items.ensures in
    record { over = rw e o.0; long = refl; tested = rw (e, o.1) c.requires.tested; so_far = rw (e, o.1) (each_start g.P.Pass.run c.requires.region_value) }

pub turn-requires-clause-tested : goal.turn-requires-clause-tested
turn-requires-clause-tested g c =
    let i = c.loop-op.invariant in
    (tested_op i.tested (step_at g.S.OpSource.left g.S.OpSource.size c.in-Some.ensures.steps i.over refl).given)

pub returns-in_err-step : goal.returns-in_err-step
returns-in_err-step g c =
    let i = c.loop-op.invariant in
    let m = (step_at g.S.OpSource.left g.S.OpSource.size c.in-Some.ensures.steps i.over refl).given in
    let p = err_from_is_err_and c.from_residual.result c.from_residual.ensures.1 in
    rw (p.1, p.2) (each_failed g.P.Pass.run g.P.Pass.does g.met.P.Pass.turns c.loop-op.index i.so_far (walk_op i.tested.walk m) c.turn.ensures c.in_err-step.was)

pub overflow_add-index : goal.overflow_add-index
overflow_add-index g c =
    let i = c.loop-op.invariant in
    let t = tested_on i.tested (step_at g.S.OpSource.left g.S.OpSource.size c.in-Some.ensures.steps i.over refl).given in
    search rules

pub loop-op-preserved : goal.loop-op-preserved
loop-op-preserved g c =
    let i = c.loop-op.invariant in
    let h = c.in-Some.ensures.steps in
    let m = (step_at g.S.OpSource.left g.S.OpSource.size h i.over refl).given in
    record {
      over = h.source ∙ i.over;
      long = cc;
      tested = rw h.on (tested_on i.tested m);
      so_far = rw h.on (each_on g.P.Pass.run g.P.Pass.does g.met.P.Pass.turns c.loop-op.index i.so_far (walk_op i.tested.walk m) c.turn.ensures c.in_ok-step.was);
    }

pub returns : goal.returns
returns g c =
    let i = c.loop-op.invariant in
    let z = walk_over i.tested.walk (step_over g.S.OpSource.left g.S.OpSource.size c.in-None.ensures.steps i.over refl) in
    each_over g.P.Pass.run g.P.Pass.does g.met.P.Pass.turns c.loop-op.index i.so_far z (c.end.ensures c.loop-op.index)
