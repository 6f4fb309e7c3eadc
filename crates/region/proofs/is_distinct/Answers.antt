use Rattle.std.proofs.Common.{sym, arith}
use borrow.Author.Count.{below_more}
use Rattle.region.proofs.Classes.{every_class}
use Rattle.region.proofs.is_distinct.Goals as goal

pub loop-class-preserved : goal.loop-class-preserved
loop-class-preserved c = below_more _ c.loop-class.class c.loop-class.invariant (c.is_distinct_in.ensures.new c.if-not-is_distinct_in.false)

pub returns : goal.returns
returns c =
    let n = c.classes-classes in
    let e = c.loop-class-test.false in
    sym (every_class n.result n.ensures.0 _ (λ k q. c.loop-class.invariant k (omega arith)))
