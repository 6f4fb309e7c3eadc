use Rattle.std.proofs.Common.{◌≡◌}
use Rattle.definition.specs.Calls.{ops_fault}
use Rattle.oplist.specs.Places.{Listed, those}
use Rattle.batch.proofs.check_all.Given as goal

abbrev pub invariant-loop-op : goal.invariant-loop-op
invariant-loop-op g l =
    let left = g.S.OpSource.left l.source in
    record {
      over : l.op-iterator.source.now ≡ l.source;
      listed : Listed (left l.op-iterator.at);
      so_far : ops_fault (those (left 0)) ≡ ops_fault (those (left l.op-iterator.at));
    }
