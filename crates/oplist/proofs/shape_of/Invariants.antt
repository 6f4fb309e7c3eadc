use Rattle.std.proofs.Common.{◌≡◌, ◌≤◌}
use Rattle.oplist.specs.Places.{shape_of}
use Rattle.oplist.proofs.Walks.{counted}
use Rattle.oplist.proofs.shape_of.Given as goal

abbrev pub invariant-loop-op : goal.invariant-loop-op
invariant-loop-op g l =
    let left = g.S.OpSource.left l.source in
    record {
      over : l.op-iterator.source.now ≡ l.source;
      place : l.op-iterator.at ≡ l.end;
      few : l.count ≤ l.end;
      inside : l.end ≤ g.S.OpSource.size l.source;
      so_far : shape_of (left 0) ≡ counted l.count (left l.end);
    }
