use Rattle.std.proofs.Common.{rules, sym, ◌∙◌, arith}
use Rattle.oplist.proofs.Walks.{counted_none, counted_on, counted_off, counted_end, step_at, step_over}
use Rattle.oplist.proofs.shape_of.Goals as goal

pub loop-op-init : goal.loop-op-init
loop-op-init g c =
    let e = c.into_iter-op-iterator.ensures.into_iter_gives in
    let o = c.ops-op-items.ensures in
    record { over = rw e o.0; place = rw e o.1; few = omega arith; inside = omega arith; so_far = counted_none _ }

pub overflow_add-count : goal.overflow_add-count
overflow_add-count g c =
    let i = c.loop-op.invariant in
    let h = c.in-Some.ensures.steps in
    let m = step_at g.S.OpSource.left g.S.OpSource.size h i.over i.place in
    let a = m.on in
    let b = m.inside in
    let f = i.few in
    let e = c.end-size.ensures in
    search rules

pub loop-op-preserved : goal.loop-op-preserved
loop-op-preserved g c =
    let i = c.loop-op.invariant in
    let h = c.in-Some.ensures.steps in
    let m = step_at g.S.OpSource.left g.S.OpSource.size h i.over i.place in
    let l = m.on in
    record { over = h.source ∙ i.over; place = h.on; few = omega (arith, i.few); inside = m.inside; so_far = i.so_far ∙ counted_on c.loop-op.count m.given }

pub returns-then-end-size : goal.returns-then-end-size
returns-then-end-size g c =
    let i = c.loop-op.invariant in
    let v = step_over g.S.OpSource.left g.S.OpSource.size c.in-None.ensures.steps i.over i.place in
    sym (i.so_far ∙ counted_end _ _ c.loop-op.end c.loop-op.count v (omega arith))

pub returns-else-end-size : goal.returns-else-end-size
returns-else-end-size g c =
    let i = c.loop-op.invariant in
    let v = step_over g.S.OpSource.left g.S.OpSource.size c.in-None.ensures.steps i.over i.place in
    sym (i.so_far ∙ counted_off _ _ c.loop-op.end c.loop-op.count v (omega arith))
