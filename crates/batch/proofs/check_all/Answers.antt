use Rattle.std.proofs.lemmas.Result.{err_from_is_err_and}
use Rattle.std.proofs.Common.{refl, sym, ap, ◌∙◌}
use Rattle.codec.specs.Forms.{checked_of}
use Rattle.oplist.proofs.Walks.{step_at, step_over, walk_on, walk_over}
use Rattle.batch.proofs.Walking.{check_over, check_refused, check_on}
use Rattle.batch.proofs.check_all.Goals as goal

pub loop-op-preserved : goal.loop-op-preserved
loop-op-preserved g c =
    let i = c.loop-op.invariant in
    let h = c.in-Some.ensures.steps in
    let m = (step_at g.S.OpSource.left g.S.OpSource.size h i.over refl).given in
    record { over = h.source ∙ i.over; listed = rw h.on (walk_on i.listed m); so_far = i.so_far ∙ rw h.on (check_on i.listed m c.check_op.ensures c.in_ok-check_op.was) }

pub returns-in_err-check_op : goal.returns-in_err-check_op
returns-in_err-check_op g c =
    let i = c.loop-op.invariant in
    let m = (step_at g.S.OpSource.left g.S.OpSource.size c.in-Some.ensures.steps i.over refl).given in
    let p = err_from_is_err_and c.from_residual.result c.from_residual.ensures.1 in
    rw (p.1, p.2) (check_refused i.listed m c.check_op.ensures c.in_err-check_op.was) ∙ ap checked_of (sym i.so_far)

pub returns : goal.returns
returns g c =
    let i = c.loop-op.invariant in
    check_over (walk_over i.listed (step_over g.S.OpSource.left g.S.OpSource.size c.in-None.ensures.steps i.over refl)) ∙ ap checked_of (sym i.so_far)
